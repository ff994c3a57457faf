use Rattle.std.proofs.Common.{◌≡◌, List, length, sym, ap, ◌∙◌, subst}
use Rattle.gob_tree.specs.declared.unit.Slot.{Slot}
use Rattle.state_dom.specs.StateValue.{start_of}
use Rattle.constraint_sys.specs.PostSolution.{main_start_value}
use Rattle.constraint_sys.specs.Sound.{IsShapedEntry}
use Rattle.constraint_sys.specs.Table.{main_start, slots_at}
use Rattle.constraint_sys.specs.declared.value.Value.{Value}
use Rattle.constraint_sys.specs.declared.value.Value.TheVariants.{State}
use Rattle.constraint_sys.proofs.Rooms.{slots_at-function}
use Rattle.constraint_sys.proofs.SoundStart.{main_start_fits}
use Rattle.constraint_sys.proofs.start.main_start_value.Goals as goal

pub returns : goal.returns
returns c =
    let p = c.args.program.now in
    let room : c.room.result ≡ length (slots_at p p.main) = c.room.ensures ∙ ap (λ (l : List Slot). length l) (sym (slots_at-function p p.main c.function_at-main.result.now c.function_at-main.ensures.is)) in
    let value : State c.in_ok-start.start ≡ main_start_value p = ap State (c.in_ok-start.ensures ∙ ap start_of room) in
    record { value = value; fits = subst (λ (v : Value). IsShapedEntry p (main_start p) v) (sym value) (main_start_fits p c.requires) }
