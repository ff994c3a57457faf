-- The fault is told where the machine stops; no other is, since tokens have one fault at most.
use Rattle.std.proofs.Common.{◌≡◌, refl, ap, ℕ, ◌-◌, Bool, true, false, ◌++◌, List, [], ◌∷◌, length, drop}
use Rattle.gob_tree.specs.declared.place.Place.{Place}
use Rattle.c_parse.specs.declared.fault.ParseFault.{ParseFault}
use Rattle.c_parse.specs.declared.fault.ParseFault.TheVariants.{Unexpected, Unsupported, TooDeep, Memory}
use Rattle.c_parse.specs.declared.terminal.Kind.{Kind}
use Rattle.c_parse.specs.declared.terminal.Kind.TheVariants as kinds
use Rattle.c_parse.specs.declared.terminal.Terminal.{Terminal}
use Rattle.readings_law.specs.Faults as examples
use Rattle.readings_law.specs.Faults.{Told, FaultsAreTold, NoOtherFaults}
use Rattle.readings_law.specs.Rows.{at, row, a}
use Rattle.c_parse.specs.Fault.{IsBadAt, IsDeepAt, place_or, is_unsupported}
use Rattle.c_parse.specs.Grammar.{begins_with, IsFirstBad, IsFirstDeep}
use Rattle.c_parse.proofs.Fronts.{first_bad, first_deep}
use Rattle.c_parse.proofs.OneFault.{one_fault}

-- the last so many tokens of a row
abbrev rest : List Kind → ℕ → List Terminal
rest ks left = drop (length (row ks) - left) (row ks)

bad_at : (ks : List Kind) (left : ℕ) (b : Bool) (p : Place) → IsFirstBad (row ks) (rest ks left)
    → begins_with is_unsupported (rest ks left) ≡ b → p ≡ place_or (at 99) (rest ks left) → IsBadAt (row ks) (at 99) b p
bad_at ks left b p first k h = record { rest = rest ks left; bad = first; keyword = k; here = h }

deep_at : (ks : List Kind) (left : ℕ) (p : Place) → IsFirstDeep (row ks) (rest ks left) → p ≡ place_or (at 99) (rest ks left) → IsDeepAt (row ks) (at 99) p
deep_at ks left p first h = record { rest = rest ks left; deep = first; here = h }

pub faults_are_told : FaultsAreTold
faults_are_told = record {
  body_without_name = bad_at examples.unnamed_body 1 false (at 6) (first_bad (row examples.unnamed_body) 1 refl).1 refl refl;
  at_the_end = bad_at (kinds.Int ∷ a ∷ []) 0 false (at 99) (first_bad (row (kinds.Int ∷ a ∷ [])) 0 refl).1 refl refl;
  keyword_outside = bad_at (kinds.Int ∷ kinds.Keyword ∷ []) 1 true (at 2) (first_bad (row (kinds.Int ∷ kinds.Keyword ∷ [])) 1 refl).1 refl refl;
  keyword_inside = bad_at (kinds.While ∷ []) 1 false (at 1) (first_bad (row (kinds.While ∷ [])) 1 refl).1 refl refl;
  operators = deep_at (examples.negations 65 ++ kinds.Semicolon ∷ []) 2 (at 71) (first_deep (row (examples.negations 65 ++ kinds.Semicolon ∷ [])) 2 refl).1 refl;
  operators_kept = bad_at (examples.negations 64 ++ kinds.Semicolon ∷ []) 1 false (at 71) (first_bad (row (examples.negations 64 ++ kinds.Semicolon ∷ [])) 1 refl).1 refl refl;
  depth = deep_at (examples.blocks 64 ++ kinds.Semicolon ∷ []) 1 (at 70) (first_deep (row (examples.blocks 64 ++ kinds.Semicolon ∷ [])) 1 refl).1 refl;
  branch = deep_at (examples.blocks 63 ++ kinds.If ∷ kinds.OpenParen ∷ a ∷ kinds.CloseParen ∷ kinds.Semicolon ∷ []) 1 (at 73) (first_deep (row (examples.blocks 63 ++ kinds.If ∷ kinds.OpenParen ∷ a ∷ kinds.CloseParen ∷ kinds.Semicolon ∷ [])) 1 refl).1 refl;
  depth_kept = bad_at (examples.blocks 64 ++ kinds.CloseBrace ∷ []) 0 false (at 99) (first_bad (row (examples.blocks 64 ++ kinds.CloseBrace ∷ [])) 0 refl).1 refl refl;
  least_place = bad_at (examples.blocks 64 ++ kinds.CloseParen ∷ kinds.OpenBrace ∷ []) 2 false (at 70) (first_bad (row (examples.blocks 64 ++ kinds.CloseParen ∷ kinds.OpenBrace ∷ [])) 2 refl).1 refl refl;
}

abbrev column : ParseFault → ℕ
column (Unexpected p) = p.column
column (Unsupported p) = p.column
column (TooDeep p) = p.column
column Memory = 0

other : (ks : List Kind) (a b : ParseFault) → (a ≡ Memory → ⊥) → (b ≡ Memory → ⊥) → (a ≡ b → ⊥) → Told ks a → Told ks b → ⊥
other ks a b m n h x y = h (one_fault (row ks) (at 99) a b m n x y)

pub no_other_faults : NoOtherFaults
no_other_faults = record {
  earlier = other examples.unnamed_body (Unexpected (at 6)) (Unexpected (at 5)) (λ h. cc) (λ h. cc) (λ h. let same : ◌≡◌ {A = ℕ} 6 5 = ap column h in cc) faults_are_told.body_without_name;
  later = other examples.unnamed_body (Unexpected (at 6)) (Unexpected (at 7)) (λ h. cc) (λ h. cc) (λ h. let same : ◌≡◌ {A = ℕ} 6 7 = ap column h in cc) faults_are_told.body_without_name;
  no_keyword = other examples.unnamed_body (Unexpected (at 6)) (Unsupported (at 6)) (λ h. cc) (λ h. cc) (λ h. cc) faults_are_told.body_without_name;
  not_deep = other examples.unnamed_body (Unexpected (at 6)) (TooDeep (at 6)) (λ h. cc) (λ h. cc) (λ h. cc) faults_are_told.body_without_name;
  keyword_told = other (kinds.Int ∷ kinds.Keyword ∷ []) (Unsupported (at 2)) (Unexpected (at 2)) (λ h. cc) (λ h. cc) (λ h. cc) faults_are_told.keyword_outside;
  bad_behind_deep = other (examples.negations 65 ++ kinds.Semicolon ∷ []) (TooDeep (at 71)) (Unexpected (at 72)) (λ h. cc) (λ h. cc) (λ h. cc) faults_are_told.operators;
}
