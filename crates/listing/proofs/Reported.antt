-- What is known of an image that was loaded into the listing's table.
-- Assumes nothing.
use mathlib.Core.Path.{◌≡◌, refl, sym, ap, ap₂, ◌∙◌}
use mathlib.Core.List.{List, ◌++◌}
use Prim.Native.Nat.{ℕ, ◌-◌, ◌≤◌, ◌<◌}
use native.Mathlib.Omega.{arith}
use borrow.Author.Tests.{lt-ltb, le-ltb}
use lib.ListN.{length, take, drop, replicate, length-append}
use lib.Seq.{take_at}
use Rattle.answers.specs.Check.{Check}
use Rattle.std.proofs.Common.{Ok, Err}
use Rattle.answers.specs.declared.ground.Ground.{Ground}
use Rattle.answers.specs.declared.call.Format.TheVariants.{Image}
use Rattle.answers.specs.First.{first}
use Rattle.answers.specs.Numbers.{number_of}
use Rattle.answers.proofs.Firsts.{new_is}
use Rattle.image.specs.Image.{number_in, words_in}
use Rattle.layout.specs.declared.head.Head.{Head}
use Rattle.views.specs.View.{padded}
use Rattle.views.proofs.Views.{padded-length}
use Rattle.listing_text.specs.Listing.{text_of, refusal_text}
use Rattle.snapshot.specs.Snapshots.{load_grounds, load_check, load_head, load_table}
use Rattle.snapshot.specs.Fresh.{fresh_head}
use Rattle.snapshot.proofs.ImagesAccepted.{LoadOk, load_ok}
use Rattle.listing.specs.Report.{report_of, by_check, Rendered}

pub report_long : (image : List ℕ) → 64006 < length image → report_of image ≡ refusal_text 15
unfolding report_of
report_long image h = rw (lt-ltb 64006 (length image) h)

report_by : (image : List ℕ) → length image ≤ 64006 → report_of image ≡ by_check (first (load_grounds 8000 1 0 Image image)) image
unfolding report_of
report_by image h = rw (le-ltb 64006 (length image) h)

-- a head and a table whose listing is that of the image
pub record Listed (image : List ℕ) (head : Head) (table : List ℕ) : Type 0 where
  pub text : text_of head.checkpoint (take head.used table) ≡ report_of image
  pub used_in : head.used ≤ length table
  pub used_most : head.used ≤ 8000

-- an image that is short enough, loaded into a table and a journal of these lengths
module _ (table journal image : List ℕ) (lt : length table ≡ 8000) (lj : length journal ≡ 1) (short : length image ≤ 64006) where
  here : {check : Check} → load_check table journal 0 Image image ≡ check → report_of image ≡ by_check check image
  here e =
      report_by image short
      ∙ ap₂ (λ (t j : ℕ). by_check (first (load_grounds t j 0 Image image)) image) (sym lt) (sym lj)
      ∙ ap (λ (check : Check). by_check check image) e

  pub report_refused : {g : Ground} → load_check table journal 0 Image image ≡ Err g → refusal_text (number_of g) ≡ report_of image
  report_refused e = sym (here e)

  module _ (e : load_check table journal 0 Image image ≡ (Ok tt)) {h : Head} (before : Head)
      (eh : h ≡ load_head table journal 0 Image image before)
      {last : List ℕ} (el : last ≡ load_table table journal 0 Image image) where
    ok : LoadOk (length table) (length journal) 0 Image image
    ok = load_ok (length table) (length journal) 0 Image image e

    head_is : h ≡ fresh_head (length (words_in image)) (number_in image) 0
    head_is = eh ∙ new_is e (fresh_head (length (words_in image)) (number_in image) 0) before

    table_is : last ≡ padded (length table) (words_in image)
    table_is = el ∙ new_is e (padded (length table) (words_in image)) table

    state_is : h.checkpoint ≡ number_in image
    unfolding fresh_head
    state_is = ap (λ (x : Head). x.checkpoint) head_is

    used_is : h.used ≡ length (words_in image)
    unfolding fresh_head
    used_is = ap (λ (x : Head). x.used) head_is

    words_are : take h.used last ≡ words_in image
    words_are =
        let zeros : List ℕ = replicate (length table - length (words_in image)) 0 in
        ap₂ take used_is table_is ∙ take_at (words_in image) zeros (length (words_in image)) refl

    pub loaded : Listed image h last
    loaded =
        let long = padded-length (length table) (words_in image) ok.room in
        record {
          text = ap₂ text_of state_is words_are ∙ sym (here e);
          used_in = omega (arith, used_is, ap length table_is, long, ok.room);
          used_most = omega (arith, used_is, ok.room, lt);
        }

-- a text that was rendered lies within its bytes
pub Rendered-in : {text bytes last : List ℕ} {n : ℕ} → Rendered text bytes last n → n ≤ length last
Rendered-in {text} {bytes} {last} {n} r = omega (arith, r.size, ap length r.bytes_are, length-append text (drop n bytes))

-- the same text by another name
pub Rendered-as : {text other bytes last : List ℕ} {n : ℕ} → text ≡ other → n ≡ length text → last ≡ text ++ drop n bytes
    → Rendered other bytes last n
Rendered-as {bytes = bytes} {n = n} e s b = record { size = s ∙ ap length e; bytes_are = b ∙ ap (λ (l : List ℕ). l ++ drop n bytes) e }
