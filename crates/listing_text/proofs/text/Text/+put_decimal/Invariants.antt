-- `Text::put_decimal` ends: the number falls.
-- Assumes nothing.
use Rattle.listing_text.proofs.text.Text.+put_decimal.Given as goal

abbrev pub decreases-put_decimal : goal.decreases-put_decimal
decreases-put_decimal l = l.number
