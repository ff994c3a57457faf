use Rattle.std.proofs.Common.{◌≡◌, ◌↔◌, List, subst, sym, ap, ◌∙◌}
use Rattle.std.specs.Prelude.{Contains}
use Rattle.constraint_sys.specs.declared.unknown.Unknown.{Unknown}
use Rattle.dep_index.specs.Rows.{set_at}
use Rattle.dep_index.specs.Noted.{Notes, reads_of}
use Rattle.dep_index.proofs.Stepping.{reads_of-notes}
use Rattle.dep_index.proofs.index.DepIndex.readers.Goals as goal

pub returns-clause-members : goal.returns-clause-members
returns-clause-members c =
    let reads = c.self.inside.reads.entries in
    λ q.
    let seen : set_at reads q ≡ reads_of c.args.self.now q = sym (reads_of-notes reads q) ∙ ap (λ (l : Notes). reads_of l q) c.self.view_is in
    subst (λ (l : List Unknown). Contains c.row.result.now q ↔ Contains l c.args.u.now) seen
    (subst (λ (l : List Unknown). Contains l q ↔ Contains (set_at reads q) c.args.u.now) (sym c.row.ensures) (c.self.invariant.members c.args.u.now q))
