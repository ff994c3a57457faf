-- Which declaration a name means (C17, 6.2.1).
--
-- A reader should check: from where on a declaration is seen and up to where, that an inner one hides an outer
-- one, which number a declaration gets, and that a function is seen before its definition.
use Rattle.std.specs.Prelude.{ℕ, ◌+◌, ◌-◌, ◌==◌, Bool, true, false, if◌then◌else◌, List, [], ◌∷◌, ◌++◌, length, codes, Option, None, Some}
use Rattle.std.specs.List.{list_any}
use Rattle.std.specs.Map.{lookup}
use Rattle.std.specs.Option.{option_or, option_map, option_map_or}
use Rattle.std.specs.Str.{bytes_eq}
use Rattle.gob_tree.specs.declared.expr.Width.{Width}
use Rattle.gob_tree.specs.declared.expr.Width.TheVariants.{W32, W64}
use Rattle.gob_tree.specs.declared.text.Text.{Text}
use Rattle.gob_tree.specs.declared.unit.FuncKind.{FuncKind}
use Rattle.gob_tree.specs.declared.unit.Slot.{Slot}
use Rattle.c_check.specs.declared.meaning.Callee.{Callee}
use Rattle.c_check.specs.declared.meaning.Declared.{Declared}
use Rattle.c_check.specs.declared.meaning.Meaning.{Meaning}
use Rattle.c_check.specs.declared.meaning.Meaning.TheVariants as meanings
use Rattle.c_check.specs.declared.meaning.Signature.{Signature}

-- ---- names with a meaning of their own

abbrev pub is_main : List ℕ → Bool
is_main x = bytes_eq x (codes "main")

-- the width of the arbitrary number that a name stands for
abbrev pub arbitrary_width : List ℕ → Option Width
arbitrary_width x =
    if bytes_eq x (codes "__VERIFIER_nondet_int") then Some W32 else
    if bytes_eq x (codes "__VERIFIER_nondet_long") then Some W64 else None

abbrev pub is_arbitrary : List ℕ → Bool
is_arbitrary x = option_map_or (λ w. true) (arbitrary_width x) false

-- ---- what the items of a unit declare

-- The functions that the whole unit defines, and those of its prototypes; and of the items above a place the
-- globals and mutexes, and the names of the functions defined and of those declared by a prototype.
pub record FileNames : Type 0 where
  pub definitions : List (List ℕ × Signature)
  pub prototypes : List (List ℕ × Signature)
  pub values : List (List ℕ × Meaning)
  pub defined : List (List ℕ)
  pub prototyped : List (List ℕ)

-- the first of this name
abbrev pub named : {A : Type 0} → List ℕ → List (List ℕ × A) → Option A
named x entries = lookup (bytes_eq x) entries

abbrev pub is_among : List ℕ → List (List ℕ) → Bool
is_among x names = list_any (bytes_eq x) names

abbrev pub is_named : {A : Type 0} → List ℕ → List (List ℕ × A) → Bool
is_named x entries = option_map_or (λ a. true) (named x entries) false

abbrev pub callee : Signature → Callee
callee f = record { number = f.number; kind = f.kind; width = f.width; params = length f.params }

-- A function is seen in the whole unit: it is what its definition tells, or what its first prototype tells where
-- there is no definition.
abbrev pub function_named : FileNames → List ℕ → Option Signature
function_named file x = option_or (named x file.definitions) (named x file.prototypes)

-- A global or a mutex is seen below its declaration. The names of the arbitrary numbers are seen everywhere.
abbrev pub file_meaning : FileNames → List ℕ → Option Meaning
file_meaning file x =
    option_or (option_map meanings.Arbitrary (arbitrary_width x))
    (option_or (named x file.values) (option_map (λ f. meanings.Function (callee f)) (function_named file x)))

-- ---- what a function declares

-- The kind of the function; its declarations that are seen at a place, the latest first; in how many blocks of
-- the body the place stands; and the slots and the thread variables that were declared before, also those that
-- aren't seen any more.
pub record BodyNames : Type 0 where
  pub kind : FuncKind
  pub visible : List (List ℕ × Declared)
  pub depth : ℕ
  pub slots : List Slot
  pub threads : List Text

-- what a name means in a body: what the latest declaration that is seen tells, or what it means outside
abbrev pub meaning : FileNames → BodyNames → List ℕ → Option Meaning
meaning file body x = option_or (option_map (λ d. d.meaning) (named x body.visible)) (file_meaning file x)

-- whether a name is declared in the innermost block already
abbrev pub is_declared_here : BodyNames → List ℕ → Bool
is_declared_here body x = option_map_or (λ d. d.depth == body.depth) (named x body.visible) false

-- a name has this meaning from here on
abbrev pub with_name : List ℕ → Meaning → BodyNames → BodyNames
with_name x m body = record body { visible = (x, record { meaning = m; depth = body.depth }) ∷ body.visible }

-- a number takes the next slot, and a thread variable the next number of those
abbrev pub with_slot : List ℕ → Width → BodyNames → BodyNames
with_slot x w body = record body { slots = body.slots ++ record { name = x; width = w } ∷ [] }

abbrev pub with_local : List ℕ → Width → BodyNames → BodyNames
with_local x w body = with_slot x w (with_name x (meanings.Local (length body.slots)) body)

abbrev pub with_thread : List ℕ → BodyNames → BodyNames
with_thread x body =
    let seen = with_name x (meanings.Thread (length body.threads)) body in
    record seen { threads = body.threads ++ x ∷ [] }

-- A block begins, and ends: what it declared is seen no more, and its slots stay taken.
abbrev pub opened : BodyNames → BodyNames
opened body = record body { depth = body.depth + 1 }

-- whether the latest declaration stands in so many blocks
abbrev pub begins_in : ℕ → List (List ℕ × Declared) → Bool
begins_in depth [] = false
begins_in depth (d ∷ ds) = d.1.depth == depth

abbrev pub without_block : ℕ → List (List ℕ × Declared) → List (List ℕ × Declared)
without_block depth [] = []
without_block depth (d ∷ ds) = if d.1.depth == depth then without_block depth ds else d ∷ ds

abbrev pub closed : BodyNames → BodyNames
closed body = record body { visible = without_block body.depth body.visible; depth = body.depth - 1 }
