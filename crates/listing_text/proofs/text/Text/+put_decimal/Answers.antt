-- `Text::put_decimal` meets its contract: the last digit stands behind those of the tenth.
-- Assumes nothing.
use mathlib.Core.Path.{sym}
use native.Mathlib.Omega.{arith}
use Rattle.listing_text.proofs.Digits.{decimal_one, decimal_more}
use Rattle.listing_text.proofs.Pieces.{both, put_as}
use Rattle.listing_text.proofs.text.Text.+put_decimal.Goals as goal

pub returns-then-number-lt10 : goal.returns-then-number-lt10
returns-then-number-lt10 t c = put_as (sym (decimal_one c.args.number (omega arith))) c.put_text.ensures

pub returns : goal.returns
returns t c = put_as (sym (decimal_more c.args.number (omega arith))) (both c.put_decimal.ensures c.put_text-2.ensures)
