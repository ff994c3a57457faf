-- What is noted of the reads of a table's points.
use Rattle.std.specs.Prelude.{◌≡◌, Contains}
use Rattle.gob_tree.specs.declared.graph.Program.{Program}
use Rattle.constraint_sys.specs.Contribution.{read_by}
use Rattle.constraint_sys.specs.Sound.{CanTurn}
use Rattle.constraint_sys.specs.Turn.{Solving}
use Rattle.constraint_sys.specs.declared.unknown.Unknown.{Unknown}
use Rattle.dep_index.specs.Noted.{Notes, reads_of}

-- Readers are points of the table, and of each point that isn't dirty the noted reads are those that it
-- has in the present table.
pub record IsNoted (p : Program) (s : Solving) (notes : Notes) : Type 0 where
  pub points : (q r : Unknown) → Contains (reads_of notes q) r → CanTurn s.table q
  pub exact : (q : Unknown) → CanTurn s.table q → (Contains s.dirty q → ⊥) → reads_of notes q ≡ read_by p s.table q
