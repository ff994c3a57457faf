-- The examples of words and of word names, worked out.
use Rattle.std.proofs.Common.{◌≡◌, refl, ℕ, List, [], ◌∷◌, subst, inl, inr}
use Rattle.std.specs.Prelude.{All, codes, IsTrue}
use Rattle.std.specs.List.{list_all}
use Rattle.std.proofs.lemmas.List.Elements.{All-from_recursion, All-head, All-tail}
use Rattle.gob_tree.specs.declared.expr.Width.TheVariants.{W32}
use Rattle.gob_tree.specs.declared.graph.FuncGraph.{FuncGraph}
use Rattle.gob_tree.specs.declared.graph.Program.{Program}
use Rattle.gob_tree.specs.declared.unit.GlobalDecl.{GlobalDecl}
use Rattle.gob_tree.specs.declared.unit.Slot.{Slot}
use Rattle.gob_tree.specs.Words.{is_word_head, is_word_byte, IsWord, IsWordOrEmpty, AreNamedByWords, HasWordNames}
use Rattle.gob_tree.specs.WordExamples.{some_words, no_words, program_of_names}

-- ---- words

spelled : (head : ℕ) (tail : List ℕ) → IsTrue (is_word_head head) → IsTrue (list_all is_word_byte tail) → IsWord (head ∷ tail)
spelled head tail first rest = (head, tail, refl, first, rest)

pub are_words : All IsWord some_words
are_words = All-from_recursion IsWord some_words (spelled _ _ refl refl, (spelled _ _ refl refl, (spelled _ _ refl refl, tt)))

pub nothing : ¬ IsWord []
nothing (head, tail, is, first, rest) = cc

wrong_head : (b : ℕ) (bs : List ℕ) → ¬ IsTrue (is_word_head b) → ¬ IsWord (b ∷ bs)
wrong_head b bs wrong (head, tail, is, first, rest) = wrong (subst (λ (h : ℕ). IsTrue (is_word_head h)) {x = head} {y = b} (cc) first)

wrong_tail : (b : ℕ) (bs : List ℕ) → ¬ IsTrue (list_all is_word_byte bs) → ¬ IsWord (b ∷ bs)
wrong_tail b bs wrong (head, tail, is, first, rest) = wrong (subst (λ (t : List ℕ). IsTrue (list_all is_word_byte t)) {x = tail} {y = bs} (cc) rest)

pub are_no_words : All (λ name. ¬ IsWord name) no_words
are_no_words = All-from_recursion (λ name. ¬ IsWord name) no_words
    (nothing, (wrong_head _ _ (λ e. cc), (wrong_tail _ _ (λ e. cc), (wrong_head _ _ (λ e. cc), (wrong_tail _ _ (λ e. cc), tt)))))

-- ---- programs

pub x : IsWord (codes "x")
x = spelled _ _ refl refl

abbrev named_program : List ℕ → Program
named_program slot = program_of_names (codes "f") (codes "g") (codes "m") (codes "t") slot

pub named : (slot : List ℕ) → IsWordOrEmpty slot → HasWordNames (named_program slot)
named slot word = record {
  functions = All-from_recursion (λ (f : FuncGraph). IsWord f.name) (named_program slot).funcs (spelled _ _ refl refl, tt);
  globals = All-from_recursion (λ (g : GlobalDecl). IsWord g.name) (named_program slot).globals (spelled _ _ refl refl, tt);
  mutexes = All-from_recursion IsWord (named_program slot).mutexes (spelled _ _ refl refl, tt);
  threads = All-from_recursion (λ (f : FuncGraph). All IsWord f.threads) (named_program slot).funcs (All-from_recursion IsWord (codes "t" ∷ []) (spelled _ _ refl refl, tt), tt);
  slots = All-from_recursion (λ (f : FuncGraph). AreNamedByWords f.slots) (named_program slot).funcs (All-from_recursion (λ (s : Slot). IsWordOrEmpty s.name) (record { name = []; width = W32 } ∷ record { name = slot; width = W32 } ∷ []) (inl refl, (word, tt)), tt);
}

first : {A : Type 0} (P : A → Type 0) (xs : List A) (a : A) (rest : List A) → xs ≡ a ∷ rest → All P xs → P a
first P xs a rest is all = All-head P a rest (subst (All P) is all)

pub digit_name : ¬ IsWordOrEmpty (codes "2")
digit_name (inl none) = cc
digit_name (inr word) = wrong_head _ _ (λ e. cc) word

second : {A : Type 0} (P : A → Type 0) (xs : List A) (a b : A) (rest : List A) → xs ≡ a ∷ b ∷ rest → All P xs → P b
second P xs a b rest is all = All-head P b rest (All-tail P a (b ∷ rest) (subst (All P) is all))

module _ (p : Program) (names : HasWordNames p) where
  pub function_named : (f : FuncGraph) → p.funcs ≡ f ∷ [] → IsWord f.name
  function_named f is = first (λ (f : FuncGraph). IsWord f.name) p.funcs f [] is names.functions

  pub global_named : (g : GlobalDecl) → p.globals ≡ g ∷ [] → IsWord g.name
  global_named g is = first (λ (g : GlobalDecl). IsWord g.name) p.globals g [] is names.globals

  pub mutex_named : (m : List ℕ) → p.mutexes ≡ m ∷ [] → IsWord m
  mutex_named m is = first IsWord p.mutexes m [] is names.mutexes

  pub thread_named : (f : FuncGraph) (t : List ℕ) → p.funcs ≡ f ∷ [] → f.threads ≡ t ∷ [] → IsWord t
  thread_named f t is only = first IsWord f.threads t [] only (first (λ (f : FuncGraph). All IsWord f.threads) p.funcs f [] is names.threads)

  pub slot_named : (f : FuncGraph) (r s : Slot) → p.funcs ≡ f ∷ [] → f.slots ≡ r ∷ s ∷ [] → IsWordOrEmpty s.name
  slot_named f r s is both = second (λ (s : Slot). IsWordOrEmpty s.name) f.slots r s [] both (first (λ (f : FuncGraph). AreNamedByWords f.slots) p.funcs f [] is names.slots)
