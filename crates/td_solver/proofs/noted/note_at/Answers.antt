use Rattle.std.proofs.Common.{◌≡◌, List, Some, inl, inr, slice_get, subst, sym, ap, ◌∙◌, rules}
use Rattle.std.specs.Map.{keys_of}
use Rattle.std.specs.Prelude.{Contains}
use Rattle.constraint_sys.specs.Contribution.{read_by}
use Rattle.constraint_sys.specs.Sound.{CanTurn}
use Rattle.constraint_sys.specs.declared.unknown.Unknown.{Unknown}
use Rattle.constraint_sys.proofs.Awakening.{there_at}
use Rattle.constraint_sys.proofs.Entries.{cases_unknown}
use Rattle.dep_index.specs.Noted.{reads_of}
use Rattle.td_solver.proofs.Keeping.{can_turn, noted_here, noted_there}
use Rattle.td_solver.proofs.noted.note_at.Goals as goal

pub note_point-requires-clause-there : goal.note_point-requires-clause-there
note_point-requires-clause-there c =
    let at : slice_get (keys_of c.args.table.now) c.args.i ≡ Some c.in-Some.u = search rules in
    can_turn c.args.table.now c.in-Some.u (c.is_clean.ensures.0 c.if-is_clean.true).0 (there_at c.args.table.now c.args.i c.in-Some.u at)

pub returns-in_ok-note_point-clause-points : goal.returns-in_ok-note_point-clause-points
returns-in_ok-note_point-clause-points c = λ q r one.
    let u = c.in-Some.u in
    let t = c.args.table.now in
    let reads = read_by c.args.program.now t u in
    let at : slice_get (keys_of t) c.args.i ≡ Some u = search rules in
    elim (cases_unknown q u) [
      | inl same ↦ inr (subst (λ (z : Unknown). CanTurn t z) (sym same) (can_turn t u (c.is_clean.ensures.0 c.if-is_clean.true).0 (there_at t c.args.i u at)))
      | inr apart ↦ inl (subst (λ (l : List Unknown). Contains l r) (c.in_ok-note_point.ensures.ok q ∙ noted_there c.args.index.now u q reads apart) one)
    ]

pub returns-in_ok-note_point-clause-kept : goal.returns-in_ok-note_point-clause-kept
returns-in_ok-note_point-clause-kept c = λ q was.
    let u = c.in-Some.u in
    let p = c.args.program.now in
    let t = c.args.table.now in
    let reads = read_by p t u in
    elim (cases_unknown q u) [
      | inl same ↦ ap (reads_of c.note_point.new.index) same ∙ c.in_ok-note_point.ensures.ok u ∙ noted_here c.args.index.now u reads ∙ sym (ap (read_by p t) same)
      | inr apart ↦ c.in_ok-note_point.ensures.ok q ∙ noted_there c.args.index.now u q reads apart ∙ was
    ]
