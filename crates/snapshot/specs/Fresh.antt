-- A store with one state: "Loading gives floor, anchor and tip that number and no open place." Its depth is "carried in the head from
-- then on" (document 02, Q-6).
-- Assumes nothing.
use Rattle.std.specs.Prelude.{false, ℕ, replicate}
use Rattle.layout.specs.declared.head.Head.{Head}

unfoldable pub fresh_head : ℕ → ℕ → ℕ → Head
fresh_head used number depth = record {
  used = used;
  oldest = number;
  checkpoint = number;
  tip = number;
  taken = replicate 8 false;
  issued = replicate 8 0;
  ends = replicate 64 0;
  depth = depth;
}
