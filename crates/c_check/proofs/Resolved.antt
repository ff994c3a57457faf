-- What the stages of the checks give of the whole unit, and that a unit that is accepted is well made.
use Rattle.std.proofs.Common.{◌≡◌, sym, subst, List, [], Result, Ok, Err}
use Rattle.std.specs.Prelude.{IfOk}
use Rattle.gob_tree.specs.WellMade.{IsWellMade}
use Rattle.gob_tree.specs.declared.unit.Unit.{Unit as TranslationUnit}
use Rattle.c_parse.specs.declared.raw.unit.RawItem.{RawItem}
use Rattle.c_parse.specs.declared.raw.unit.RawUnit.{RawUnit}
use Rattle.c_check.specs.declared.fault.FrontFault.{FrontFault}
use Rattle.c_check.specs.Faults.{Checks, IsFirst}
use Rattle.c_check.specs.Spelled.{IsSpelled}
use Rattle.c_check.specs.Stages.{whole_faults}
use Rattle.c_check.specs.Units.{Made, nothing_made, after_items, made_of, unit_faults, unit_of}
use Rattle.c_check.proofs.WellMade.{made_unit}

pub checked_is_made : (r : Result TranslationUnit FrontFault) (raw : RawUnit) → IsSpelled raw.items → Checks r (unit_faults raw) (unit_of raw) → IfOk r IsWellMade
checked_is_made (Ok v) raw spelled h = subst IsWellMade (sym h.1) (made_unit raw spelled h.0)
checked_is_made (Err fault) raw spelled h = tt

-- ---- from the items of a tree to the unit's faults

pub refused : (fault : FrontFault) (raw : RawUnit) (all : List RawItem) (start : Made) → all ≡ raw.items → start ≡ nothing_made all → IsFirst fault (whole_faults all start) → IsFirst fault (unit_faults raw)
refused fault raw all start i s h =
    subst (λ (x : List RawItem). IsFirst fault (whole_faults x (nothing_made x))) i (subst (λ (m : Made). IsFirst fault (whole_faults all m)) s h)

pub accepted : (raw : RawUnit) (all : List RawItem) (start made : Made) → all ≡ raw.items → start ≡ nothing_made all → (whole_faults all start ≡ []) × (made ≡ after_items all start)
    → (unit_faults raw ≡ []) × (made ≡ made_of raw)
accepted raw all start made i s h =
    subst (λ (x : List RawItem). (whole_faults x (nothing_made x) ≡ []) × (made ≡ after_items x (nothing_made x))) i
    (subst (λ (m : Made). (whole_faults all m ≡ []) × (made ≡ after_items all m)) s h)
