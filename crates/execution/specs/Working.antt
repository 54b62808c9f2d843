-- The working memory of an execution: the positions of the orders in the read set, and at each position the word that orders made of the
-- read set's, if one named its offer. No promise to a caller of the crate speaks of it.
-- Assumes nothing.
use Rattle.std.specs.Prelude.{◌≡◌, List, ℕ, ◌≤◌, ◌<◌, length, get_or, replicate, Option, None}
use Rattle.std.specs.List.{filter_map}
use Rattle.entry.specs.Word.{offer_of}
use Rattle.changes.specs.Lists.{From}
use Rattle.orders.specs.Orders.{order_offer}

-- the words made
abbrev pub made : List (Option ℕ) → List ℕ
made words = filter_map (λ word. word) words

-- words have an offer at a position
pub record At (offer : ℕ) (words : List ℕ) (position : ℕ) : Type 0 where
  pub inside : position < length words
  pub named : offer_of (get_or words position 0) ≡ offer

-- the first n orders have their offers at the positions noted for them
abbrev pub Located : List ℕ → List ℕ → List ℕ → ℕ → Type 0
Located words orders positions n = (k : ℕ) → k < n → At (order_offer (get_or orders k 0)) words (get_or positions k 0)

-- what is known of a batch that was not turned away before its orders are executed
pub record Accepted (reads orders positions : List ℕ) : Type 0 where
  pub short : length reads ≤ 64
  pub rises : From 0 reads
  pub enough : length orders ≤ length positions
  pub located : Located reads orders positions (length orders)

-- a read set that has the offers of all the orders at their positions, and no word made of it
pub record Ready (reads orders positions : List ℕ) (words : List (Option ℕ)) : Type 0 where
  pub rises : From 0 reads
  pub enough : length orders ≤ length positions
  pub located : Located reads orders positions (length orders)
  pub none_made : words ≡ replicate (length reads) None
