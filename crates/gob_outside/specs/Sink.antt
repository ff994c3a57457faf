-- What a sink tells.
use Rattle.std.specs.Prelude.{ℕ, List, Option, None}

-- what a sink tells at one moment: its bytes, where it tells them, and how many writes and flushes
-- failed
pub record SinkNow : Type 0 where
  pub written : Option (List ℕ)
  pub faults : ℕ

-- what a sink tells that doesn't tell its bytes
abbrev pub silent : ℕ → SinkNow
silent faults = record { written = None; faults = faults }
