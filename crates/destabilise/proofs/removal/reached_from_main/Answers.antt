use Rattle.std.proofs.Common.{◌≡◌, ◌⊎◌, ◌↔◌, false, List, [], ◌∷◌, Some, length, sym, subst, ap, ◌∙◌, arith}
use Rattle.std.specs.Prelude.{Contains}
use Rattle.std.proofs.lemmas.List.{nil_from_length}
use Rattle.constraint_sys.specs.declared.unknown.Unknown.{Unknown}
use Rattle.constraint_sys.specs.Table.{IsThere, main_start}
use Rattle.destabilise.specs.Linked.{Reaches}
use Rattle.destabilise.specs.Marked.{mark_at}
use Rattle.destabilise.proofs.Linking.{affects_there}
use Rattle.destabilise.proofs.Removing.{IsMain, main_is, of_program, reached_is, reaches_are}
use Rattle.destabilise.proofs.Searching.{popped_in, search_ends, search_goes_on, search_starts}
use Rattle.destabilise.proofs.removal.reached_from_main.Goals as goal

pub loop-u-init : goal.loop-u-init
loop-u-init c =
    let p = c.args.program.now in
    let t = c.args.table.now in
    let us = c.main_start.result ∷ [] in
    search_starts (IsThere t) (IsMain p) (Reaches p t) c.in_ok-marks.marks c.add_each.new.self us c.add_each.new.waiting.items
    c.in_ok-marks.ensures.there c.in_ok-marks.ensures.none
    (main_is p t us (ap (λ (u : Unknown). u ∷ []) c.main_start.ensures) c.requires.post_solution.roots.main_there)
    (record {
      there = c.in_ok-add_each.ensures.there;
      marked = c.in_ok-add_each.ensures.marked;
      waits = subst (λ (l : List Unknown). (v : Unknown) → Contains c.add_each.new.waiting.items v ↔ (Contains l v ⊎ (Contains us v × (mark_at c.in_ok-marks.marks v ≡ Some false)))) c.new-waiting.ensures.items c.in_ok-add_each.ensures.waiting;
    })

pub reached_with-requires-clause-of_program : goal.reached_with-requires-clause-of_program
reached_with-requires-clause-of_program c =
    let p = c.args.program.now in
    let t = c.args.table.now in
    of_program p t c.requires.shaped c.in-Some.u (popped_in (IsThere t) (IsMain p) (Reaches p t) c.loop-u.marks c.loop-u.waiting.items c.pop.new.self.items c.in-Some.u c.in-Some.ensures.items c.loop-u.invariant)

pub loop-u-preserved : goal.loop-u-preserved
loop-u-preserved c =
    let p = c.args.program.now in
    let t = c.args.table.now in
    let us = c.as_slice.result.now in
    let found = subst (λ (l : List Unknown). (v : Unknown) → (Contains l v × IsThere t v) ↔ Reaches p t c.in-Some.u v) (sym c.as_slice.ensures.value) (reaches_are p t c.args.links.now c.requires.links c.in-Some.u c.in_ok-next.next.items c.in_ok-next.ensures) in
    search_goes_on (IsThere t) (IsMain p) (Reaches p t) c.loop-u.marks c.add_each-in-Some.new.self c.loop-u.waiting.items c.pop.new.self.items c.add_each-in-Some.new.waiting.items us c.in-Some.u c.in-Some.ensures.items c.loop-u.invariant found (record {
      there = c.in_ok-add_each-2.ensures.there;
      marked = c.in_ok-add_each-2.ensures.marked;
      waits = c.in_ok-add_each-2.ensures.waiting;
    })

pub returns : goal.returns
returns c =
    let p = c.args.program.now in
    let t = c.args.table.now in
    λ u.
    let found = search_ends (IsThere t) (IsMain p) (Reaches p t) c.loop-u.marks c.loop-u.waiting.items (nil_from_length c.loop-u.waiting.items (omega (arith, c.in_default.ensures.cases.0))) c.loop-u.invariant u in
    let is = reached_is p t c.requires.shaped (affects_there p t c.requires.post_solution) u in
    (λ marked. is.0 (found.0 marked), λ one. found.1 (is.1 one))
