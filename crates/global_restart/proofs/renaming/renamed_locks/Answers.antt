use Rattle.std.proofs.Common.{◌≡◌, ◌↔◌, ◌⊎◌, ℕ, List, Option, Some, sym, subst, arith}
use Rattle.std.specs.Prelude.{slice_get}
use Rattle.lockset_dom.specs.Members.{Holds}
use Rattle.global_restart.proofs.Numbers.{found_more, locks_found, number_below}
use Rattle.global_restart.proofs.renaming.renamed_locks.Goals as goal

pub with_match-renamed-requires : goal.with_match-renamed-requires
with_match-renamed-requires c = λ n at.
    number_below c.args._old.now c.args._new.now c.requires.old c.requires.new c.args.matching.now c.requires.matching c.loop-m.m n
    (subst (λ (ms : List (Option ℕ)). slice_get ms c.loop-m.m ≡ Some (Some n)) c.as_slice-mutexes.ensures at)

pub loop-m-preserved : goal.loop-m-preserved
loop-m-preserved c = λ k.
    let ms = c.args.matching.now.mutexes in
    found_more c.args.locks ms c.loop-m.m k (Holds c.loop-m.renamed k) (Holds c.with_match-renamed.result k) (c.loop-m.invariant k)
    (subst (λ (l : List (Option ℕ)). Holds c.with_match-renamed.result k ↔ (Holds c.loop-m.renamed k ⊎ (Holds c.args.locks c.loop-m.m × (slice_get l c.loop-m.m ≡ Some (Some k))))) c.as_slice-mutexes.ensures (c.with_match-renamed.ensures k))

pub returns : goal.returns
returns c =
    locks_found c.args._old.now c.args._new.now c.requires.old c.requires.new c.args.matching.now c.requires.matching c.args.locks c.loop-m.renamed c.loop-m.m (omega (arith, c.loop-m-test.false)) c.loop-m.invariant
