-- The same unknown, value and state under the numbers of another program, place by place.
use Rattle.std.proofs.Common.{◌≡◌, List, [], ◌∷◌, Some, refl, sym, ap, ◌∙◌}
use Rattle.std.specs.Prelude.{Contains}
use Rattle.gob_tree.specs.Formed.{IsFormed}
use Rattle.gob_tree.specs.Named.{SameFunction}
use Rattle.gob_tree.specs.declared.graph.Program.{Program}
use Rattle.constraint_sys.specs.declared.unknown.Unknown.{Unknown}
use Rattle.constraint_sys.specs.declared.unknown.Unknown.TheVariants.{Point, Global}
use Rattle.constraint_sys.specs.declared.value.Effect.{Effect}
use Rattle.constraint_sys.specs.declared.value.Outcome.{Outcome}
use Rattle.constraint_sys.specs.declared.value.Value.{Value}
use Rattle.constraint_sys.specs.declared.value.Value.TheVariants.{State, Number}
use Rattle.constraint_sys.specs.Carry.{SameGlobal, HoldsLostMutex, RenamesLocks, Renames, RenamesValue, point, global, bottom, reached, number}
use Rattle.constraint_sys.specs.Table.{TableValue, value_at}
use Rattle.carry_law.proofs.RenamedStates.{IsRenamedState}
use Rattle.carry_law.proofs.Renaming.{new_function, old_function, new_global, old_global, new_locks, old_locks}

abbrev pub IsRenamed : Program → Program → Unknown → Unknown → Type 0
IsRenamed old new (Point f key node) (Point g other n) =
    SameFunction old f new g × (key.a ≡ other.a) × (key.b ≡ other.b) × RenamesLocks old new key.locks other.locks × (node ≡ n)
IsRenamed old new (Point f key node) (Global h) = ⊥
IsRenamed old new (Global g) (Point f key node) = ⊥
IsRenamed old new (Global g) (Global h) = SameGlobal old g new h

abbrev pub IsRenamedValue : Program → Program → Value → Value → Type 0
IsRenamedValue old new (State s) (State r) = IsRenamedState old new s r
IsRenamedValue old new (State s) (Number y) = ⊥
IsRenamedValue old new (Number x) (State r) = ⊥
IsRenamedValue old new (Number x) (Number y) = x ≡ y

module _ {old new : Program} where
  pub renamed : {u w : Unknown} → Renames old new u w → IsRenamed old new u w
  renamed (point same locks) = (same, refl, refl, locks, refl)
  renamed (global same) = same

  pub renamed_value : {v x : Value} → RenamesValue old new v x → IsRenamedValue old new v x
  renamed_value bottom = refl
  renamed_value (reached locks) = (refl, locks)
  renamed_value number = refl

-- one new name, and one old one
pub renamed_once : (old new : Program) → IsFormed new → (u w x : Unknown) → IsRenamed old new u w → IsRenamed old new u x → w ≡ x
renamed_once old new formed (Point f key node) (Point g other n) (Point h last m) first second =
    let function = new_function old new formed f g h first.0 second.0 in
    let a = sym first.1 ∙ second.1 in
    let b = sym first.2 ∙ second.2 in
    let locks = new_locks old new key.locks other.locks last.locks first.3 second.3 in
    let at = sym first.4 ∙ second.4 in
    λ i. Point (function i) (record { a = a i; b = b i; locks = locks i }) (at i)
renamed_once old new formed (Point f key node) (Point g other n) (Global k) first second = absurd second
renamed_once old new formed (Point f key node) (Global h) x first second = absurd first
renamed_once old new formed (Global g) (Point f key node) x first second = absurd first
renamed_once old new formed (Global g) (Global h) (Point f key node) first second = absurd second
renamed_once old new formed (Global g) (Global h) (Global k) first second = ap Global (new_global old new formed g h k first second)

-- the context of a point holds no mutex that is lost
abbrev pub KeepsContext : Program → Program → Unknown → Type 0
KeepsContext old new (Point f key node) = HoldsLostMutex old new key.locks → ⊥
KeepsContext old new (Global g) = Unit {0}

pub renamed_from_one : (old new : Program) → IsFormed old → (u q w : Unknown) → KeepsContext old new u → KeepsContext old new q → IsRenamed old new u w → IsRenamed old new q w → u ≡ q
renamed_from_one old new formed (Point f key node) (Point e context at) (Point g other n) keeps keeps_too first second =
    let function = old_function old new formed f e g first.0 second.0 in
    let a = first.1 ∙ sym second.1 in
    let b = first.2 ∙ sym second.2 in
    let locks = old_locks old new formed key.locks context.locks other.locks keeps keeps_too first.3 second.3 in
    let same = first.4 ∙ sym second.4 in
    λ i. Point (function i) (record { a = a i; b = b i; locks = locks i }) (same i)
renamed_from_one old new formed (Point f key node) (Global h) (Point g other n) keeps keeps_too first second = absurd second
renamed_from_one old new formed (Point f key node) q (Global h) keeps keeps_too first second = absurd first
renamed_from_one old new formed (Global g) q (Point e context at) keeps keeps_too first second = absurd first
renamed_from_one old new formed (Global g) (Point f key node) (Global h) keeps keeps_too first second = absurd second
renamed_from_one old new formed (Global g) (Global k) (Global h) keeps keeps_too first second = ap Global (old_global old new formed g k h first second)

-- ---- what two tables have

-- an entry of the first table is one of the second, under the new numbers
pub record IsCarriedOver (old new : Program) (t n : TableValue) (u : Unknown) : Type 0 where
  pub place : Unknown
  pub named : IsRenamed old new u place
  pub was : Value
  pub is : Value
  pub at : value_at t u ≡ Some was
  pub stands : value_at n place ≡ Some is
  pub same : IsRenamedValue old new was is

-- ---- what actions give

abbrev pub AreRenamedEffects : Program → Program → List Effect → List Effect → Type 0
AreRenamedEffects old new [] [] = Unit {0}
AreRenamedEffects old new [] (e ∷ es) = ⊥
AreRenamedEffects old new (d ∷ ds) [] = ⊥
AreRenamedEffects old new (d ∷ ds) (e ∷ es) =
    IsRenamed old new d.target e.target × IsRenamedValue old new d.value e.value × AreRenamedEffects old new ds es

pub record IsRenamedOutcome (old new : Program) (a b : Outcome) : Type 0 where
  pub state : IsRenamedState old new a.value b.value
  pub effects : AreRenamedEffects old new a.effects b.effects

-- all that an outcome reads, and all that it contributes to, is carried over
pub record IsKnown (old new : Program) (t n : TableValue) (o : Outcome) : Type 0 where
  pub reads : (r : Unknown) → Contains o.reads r → IsCarriedOver old new t n r
  pub targets : (e : Effect) → Contains o.effects e → IsCarriedOver old new t n e.target
