-- What a phase finds is what the text has.
use Rattle.std.proofs.Common.{◌≡◌, sym, subst, ℕ, List, []}
use Rattle.c_check.specs.declared.fault.FrontFault.{FrontFault}
use Rattle.c_check.specs.Faults.{want_of_memory, IsFirst}
use Rattle.c_check.specs.Front.{graph_faults, tree_faults, Reads, IsFirstOf, in_tree, no_memory}
use Rattle.c_check.specs.Spelled.{IsSpelled}
use Rattle.c_check.specs.Units.{unit_faults, unit_of}
use Rattle.c_parse.specs.declared.raw.unit.RawUnit.{RawUnit}
use Rattle.c_check.proofs.Firsts.{first_left, first_right, none_of}
use Rattle.c_check.proofs.Spelled.{spelled_unit}

pub reads_spelled : (text : List ℕ) (raw : RawUnit) → Reads text raw → IsSpelled raw.items
reads_spelled text raw read = spelled_unit text read.tokens raw.items read.cut read.spelled

pub unit_refused : (text : List ℕ) (raw : RawUnit) (fault : FrontFault) → Reads text raw → IsFirst fault (unit_faults raw) → IsFirstOf text fault
unit_refused text raw fault read is = in_tree raw read (first_left fault (unit_faults raw) (graph_faults 0 (unit_of raw).funcs) is)

pub graphs_refused : (text : List ℕ) (raw : RawUnit) (fault : FrontFault) → Reads text raw → unit_faults raw ≡ [] → IsFirst fault (graph_faults 0 (unit_of raw).funcs) → IsFirstOf text fault
graphs_refused text raw fault read none is = in_tree raw read (first_right fault (unit_faults raw) (graph_faults 0 (unit_of raw).funcs) none is)

pub want_refused : (text : List ℕ) (fault : FrontFault) → fault ≡ want_of_memory → IsFirstOf text fault
want_refused text fault is = subst (λ (f : FrontFault). IsFirstOf text f) (sym is) no_memory

pub no_faults : (raw : RawUnit) → unit_faults raw ≡ [] → graph_faults 0 (unit_of raw).funcs ≡ [] → tree_faults raw ≡ []
no_faults raw units graphs = none_of (unit_faults raw) (graph_faults 0 (unit_of raw).funcs) units graphs
