-- What a name is made of (C17, 6.4.2.1, in the letters and digits of ASCII), and that the names of a
-- program are made so.
use Rattle.std.specs.Prelude.{◌≡◌, ℕ, Bool, ◌||◌, ◌==◌, ◌⊎◌, List, [], ◌∷◌, All, IsTrue}
use Rattle.std.specs.Char.{is_ascii_alphabetic, is_ascii_digit}
use Rattle.std.specs.List.{list_all}
use Rattle.gob_tree.specs.declared.graph.FuncGraph.{FuncGraph}
use Rattle.gob_tree.specs.declared.graph.Program.{Program}
use Rattle.gob_tree.specs.declared.unit.GlobalDecl.{GlobalDecl}
use Rattle.gob_tree.specs.declared.unit.Slot.{Slot}

-- a letter of ASCII or `_`
abbrev pub is_word_head : ℕ → Bool
is_word_head b = is_ascii_alphabetic b || b == 95

abbrev pub is_word_byte : ℕ → Bool
is_word_byte b = is_word_head b || is_ascii_digit b

-- a word: a letter or `_`, and then letters, digits and `_`
abbrev pub IsWord : List ℕ → Type 0
IsWord p = (head : ℕ) × (tail : List ℕ) × (p ≡ head ∷ tail) × IsTrue (is_word_head head) × IsTrue (list_all is_word_byte tail)

-- a temporary and the returned value have no name
abbrev pub IsWordOrEmpty : List ℕ → Type 0
IsWordOrEmpty p = (p ≡ []) ⊎ IsWord p

abbrev pub AreNamedByWords : List Slot → Type 0
AreNamedByWords = All (λ (slot : Slot). IsWordOrEmpty slot.name)

pub record HasWordNames (p : Program) : Type 0 where
  pub functions : All (λ (f : FuncGraph). IsWord f.name) p.funcs
  pub globals : All (λ (g : GlobalDecl). IsWord g.name) p.globals
  pub mutexes : All IsWord p.mutexes
  pub threads : All (λ (f : FuncGraph). All IsWord f.threads) p.funcs
  pub slots : All (λ (f : FuncGraph). AreNamedByWords f.slots) p.funcs
