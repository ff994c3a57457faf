use Rattle.std.proofs.Common.{◌≡◌, ℕ, List, Option, Some, sym, subst}
use Rattle.std.specs.Prelude.{slice_get}
use Rattle.constraint_sys.specs.Carry.{Renames}
use Rattle.constraint_sys.specs.declared.unknown.Unknown.{Unknown}
use Rattle.constraint_sys.specs.declared.unknown.Unknown.TheVariants.{Point, Global}
use Rattle.global_restart.specs.Keeping.{HasNewNumber}
use Rattle.global_restart.proofs.Numbers.{global_renamed, point_renamed}
use Rattle.global_restart.proofs.renaming.renamed.Goals as goal

pub match_at-requires : goal.match_at-requires
match_at-requires c =
    let has = subst (λ (x : Unknown). HasNewNumber c.args._old.now c.args._new.now x) c.in-Point.is c.requires.has in
    (has.0, subst (λ (ms : List (Option ℕ)). slice_get ms c.in-Point.func ≡ Some (Some has.0)) (sym c.as_slice.ensures) ((c.requires.matching.funcs.matches_are c.in-Point.func has.0).1 has.1))

pub match_at-requires-in-Global : goal.match_at-requires-in-Global
match_at-requires-in-Global c =
    let has = subst (λ (x : Unknown). HasNewNumber c.args._old.now c.args._new.now x) c.in-Global.is c.requires.has in
    (has.0, subst (λ (ms : List (Option ℕ)). slice_get ms c.in-Global.g ≡ Some (Some has.0)) (sym c.as_slice-in-Global.ensures) ((c.requires.matching.globals.matches_are c.in-Global.g has.0).1 has.1))

pub returns-in-Point : goal.returns-in-Point
returns-in-Point c =
    let at = subst (λ (ms : List (Option ℕ)). slice_get ms c.in-Point.func ≡ Some (Some c.match_at.result)) c.as_slice.ensures c.match_at.ensures in
    subst (λ (x : Unknown). Renames c.args._old.now c.args._new.now x (Point c.match_at.result (record { a = c.in-Point.key.a; b = c.in-Point.key.b; locks = c.renamed_locks.result }) c.in-Point.node)) (sym c.in-Point.is)
    (point_renamed c.args._old.now c.args._new.now c.args.matching.now c.requires.matching c.in-Point.func c.match_at.result c.in-Point.key c.in-Point.node c.renamed_locks.result at c.renamed_locks.ensures)

pub returns-in-Global : goal.returns-in-Global
returns-in-Global c =
    let at = subst (λ (ms : List (Option ℕ)). slice_get ms c.in-Global.g ≡ Some (Some c.match_at-in-Global.result)) c.as_slice-in-Global.ensures c.match_at-in-Global.ensures in
    subst (λ (x : Unknown). Renames c.args._old.now c.args._new.now x (Global c.match_at-in-Global.result)) (sym c.in-Global.is)
    (global_renamed c.args._old.now c.args._new.now c.args.matching.now c.requires.matching c.in-Global.g c.match_at-in-Global.result at)
