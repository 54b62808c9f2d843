-- "the twelve above are shown to follow from the definitions, as one table with one proof over it": the checker computes what each
-- entry comes to on the unit's memory and head, every commit of moments 8 and 9 among them, and meets what the table expects.
-- Assumes nothing.
use mathlib.Core.Path.{◌≡◌, refl}
use mathlib.Core.List.{map}
use lib.Count.{ones_in}
use Rattle.changes.specs.Calculus.{find, compose, puts, apply, compose_all}
use Rattle.changes.specs.Lists.{is_rising, is_map, has_no_put}
use Rattle.changes.specs.ReadSets.{read_of, over}
use Rattle.changes.specs.Runs.{run_of}
use Rattle.answers.specs.First.{first}
use Rattle.orders.specs.Effects.{sixteenths, put_at, with_price, effect}
use Rattle.orders.specs.Orders.{kind_named, is_allowed}
use Rattle.batch.specs.Batches.{checked, batch}
use Rattle.execution.specs.Executing.{execute, priced}
use Rattle.execution.specs.Tests.{is_read, list_all as all_orders_b}
use Rattle.big_endian.specs.Bytes.{bytes_of, value_of}
use Rattle.image.specs.Image.{word_bytes, image_of, words_of, number_in, count_in, words_in, is_image}
use Rattle.sheet.specs.Sheet.{set_bits, rows_of, seat_words, words_of_rows, number_bytes, row_bytes, rows_bytes, sheet_of, sheet_size, row_count_in}
use Rattle.sheet.specs.Sheet.{numbers_in, rows_in, is_row, are_rows, are_bytes, is_sheet, words_in as sheet_words}
use Rattle.soundness.specs.Sound.{is_sound}
use Rattle.layout.specs.Tests.{all_below, all_of, are_zeros, least}
use Rattle.views.specs.Trim.{trimmed_head, trimmed_journal}
use Rattle.snapshot.specs.Fresh.{fresh_head}
use Rattle.exports.specs.Export.{state_bytes, state_size}
use Rattle.commits.specs.Commit.{with_step}
use Rattle.flushes.specs.Flush.{flushed_head}
use Rattle.rollbacks.specs.RollBack.{cut_to}
use Rattle.slots.specs.Slots.{opened, closed_at}
use Rattle.last_changes.specs.Last.{last_in}
use Rattle.history.specs.Traces.{store_responses}
use Rattle.moments.specs.Batches.{batches}
use Rattle.moments.specs.Callers.{asking, putting, desk_and_foyer}
use Rattle.moments.specs.Depths.{depths}
use Rattle.moments.specs.Images.{images_of_states}
use Rattle.moments.specs.Moments.{computed, expected}
use Rattle.moments.specs.Sheets.{sheets_of_states}
use Rattle.moments.specs.Since.{since_when}
use Rattle.moments.specs.Table.{twelve}

pub moments_follow : map computed twelve ≡ map expected twelve
unfolding find compose puts apply compose_all is_rising is_map read_of over run_of first sixteenths put_at with_price effect
    kind_named is_allowed checked batch execute priced is_read all_orders_b bytes_of value_of word_bytes image_of words_of number_in
    count_in words_in is_image is_sound all_below all_of are_zeros least trimmed_head trimmed_journal fresh_head
    with_step flushed_head cut_to
    has_no_put opened closed_at store_responses state_bytes state_size last_in twelve
moments_follow = refl

-- and what document 02 says of desk and foyer
pub callers_follow : map computed desk_and_foyer ≡ map expected desk_and_foyer
unfolding find compose puts apply compose_all is_rising is_map read_of over run_of first bytes_of value_of word_bytes image_of words_of
    number_in count_in words_in is_image is_sound all_below all_of are_zeros least trimmed_head trimmed_journal
    fresh_head has_no_put opened closed_at
    store_responses last_in asking putting desk_and_foyer
callers_follow = refl

-- and of images and restarts
pub images_follow : map computed images_of_states ≡ map expected images_of_states
unfolding find compose puts apply compose_all is_rising is_map has_no_put read_of over run_of first bytes_of value_of
    word_bytes image_of words_of
    number_in count_in words_in is_image is_sound all_below all_of are_zeros least trimmed_head trimmed_journal
    fresh_head with_step flushed_head opened
    closed_at state_bytes state_size store_responses last_in images_of_states
images_follow = refl

-- and of sixteenths, with what document 01 says of the other orders
pub batches_follow : map computed batches ≡ map expected batches
unfolding find compose puts is_rising read_of over first sixteenths put_at with_price effect kind_named is_allowed
    checked batch execute priced
    is_read all_orders_b batches
batches_follow = refl

-- and of lookups with since when
pub since_follows : map computed since_when ≡ map expected since_when
unfolding find compose puts apply compose_all is_rising is_map has_no_put read_of over run_of first bytes_of value_of
    word_bytes image_of words_of
    number_in count_in words_in is_image is_sound all_below all_of are_zeros least trimmed_head trimmed_journal
    fresh_head with_step flushed_head cut_to opened
    closed_at state_bytes state_size store_responses last_in since_when
since_follows = refl

-- and of row sheets
pub sheets_follow : map computed sheets_of_states ≡ map expected sheets_of_states
unfolding find compose puts apply compose_all is_rising is_map has_no_put read_of over run_of first bytes_of value_of
    word_bytes image_of words_of
    number_in count_in words_in is_image ones_in set_bits rows_of seat_words words_of_rows number_bytes row_bytes
    rows_bytes sheet_of sheet_size row_count_in
    numbers_in rows_in is_row are_rows are_bytes is_sheet sheet_words is_sound all_below all_of are_zeros least
    trimmed_head trimmed_journal fresh_head with_step
    flushed_head opened closed_at state_bytes state_size store_responses last_in sheets_of_states
sheets_follow = refl

-- and of the depth that must stay
pub depths_follow : map computed depths ≡ map expected depths
unfolding find compose puts apply compose_all is_rising is_map has_no_put read_of over run_of first bytes_of value_of
    word_bytes image_of words_of
    number_in count_in words_in is_image ones_in set_bits rows_of seat_words words_of_rows number_bytes row_bytes
    rows_bytes sheet_of sheet_size row_count_in
    numbers_in rows_in is_row are_rows are_bytes is_sheet sheet_words is_sound all_below all_of are_zeros least
    trimmed_head trimmed_journal fresh_head with_step
    flushed_head cut_to opened closed_at state_bytes state_size store_responses last_in depths
depths_follow = refl
