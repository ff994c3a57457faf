-- Stacks whose last frame is given apart.
use Rattle.std.proofs.Common.{◌≡◌, ◌≢◌, ◌≤◌, ◌+◌, ◌-◌, ℕ, nat_eq, Bool, true, false, cond, List, [], ◌∷◌, ◌++◌, Option, None, Some, length, take, get_or, refl, sym, ap, ◌∙◌, arith}
use Rattle.std.proofs.lemmas.List.{get_or_default, take_all, take_more}
use Rattle.std.specs.Prelude.{option_and_then}
use Rattle.std.specs.Option.{option_map}
use Rattle.arg_graph.specs.Following.{Offers, StackValue, goes_on, gone_on, left, moved, returned, rooted, stepped_frames, target_of, top_of, waiting_frame, with_top}
use Rattle.arg_graph.specs.declared.stack.Frame.{Frame}
use Rattle.arg_graph.specs.declared.vertex.Label.{Label}
use Rattle.arg_graph.specs.declared.vertex.Label.TheVariants.{Do, Over, Enter, Thread, Leave}
use Rattle.arg_graph.specs.declared.vertex.Vertex.{Vertex}

mapped_twice : (x : Frame) (below : StackValue) (o : Option StackValue) → option_map (λ (new : StackValue). x ∷ new) (option_map (λ (new : StackValue). below ++ new) o) ≡ option_map (λ (new : StackValue). (x ∷ below) ++ new) o
mapped_twice x below None = refl
mapped_twice x below (Some new) = refl

mapped_itself : (o : Option StackValue) → o ≡ option_map (λ (new : StackValue). [] ++ new) o
mapped_itself None = refl
mapped_itself (Some new) = refl

with_top-last : (becomes : Vertex → Option StackValue) (below : StackValue) (x : Frame) → with_top becomes (below ++ x ∷ []) ≡ option_map (λ (new : StackValue). below ++ new) (becomes x.vertex)
with_top-last becomes [] x = mapped_itself (becomes x.vertex)
with_top-last becomes (b ∷ []) x = ap (option_map (λ (new : StackValue). b ∷ new)) (with_top-last becomes [] x) ∙ mapped_twice b [] (becomes x.vertex)
with_top-last becomes (b ∷ c ∷ rest) x = ap (option_map (λ (new : StackValue). b ∷ new)) (with_top-last becomes (c ∷ rest) x) ∙ mapped_twice b (c ∷ rest) (becomes x.vertex)

pub top_of-last : (below : StackValue) (x : Frame) → top_of (below ++ x ∷ []) ≡ Some x.vertex
top_of-last [] x = refl
top_of-last (b ∷ []) x = refl
top_of-last (b ∷ c ∷ rest) x = top_of-last (c ∷ rest) x

pub returned-last : (offers : Offers) (below : StackValue) (x : Frame) → returned offers (below ++ x ∷ []) ≡ gone_on offers below
returned-last offers [] x = refl
returned-last offers (b ∷ []) x = refl
returned-last offers (b ∷ c ∷ []) x = refl
returned-last offers (b ∷ c ∷ d ∷ rest) x = ap (option_map (λ (new : StackValue). b ∷ new)) (returned-last offers (c ∷ d ∷ rest) x)

none_mapped : (b : Bool) (x : Frame) (o : Option StackValue) → option_map (λ (new : StackValue). x ∷ new) (cond b o None) ≡ cond b (option_map (λ (new : StackValue). x ∷ new) o) None
none_mapped true x o = refl
none_mapped false x o = refl

same_both : (b : Bool) → ◌≡◌ {A = Option StackValue} (cond b None None) None
same_both true = refl
same_both false = refl

pub left-last : (offers : Offers) (below : StackValue) (x : Frame) → left offers (below ++ x ∷ []) ≡ cond (nat_eq x.vertex.node 1) (gone_on offers below) None
left-last offers [] x = sym (same_both (nat_eq x.vertex.node 1))
left-last offers (b ∷ []) x = refl
left-last offers (b ∷ c ∷ []) x = ap (option_map (λ (new : StackValue). b ∷ new)) (left-last offers (c ∷ []) x) ∙ none_mapped (nat_eq x.vertex.node 1) b (gone_on offers (c ∷ []))
left-last offers (b ∷ c ∷ d ∷ rest) x = ap (option_map (λ (new : StackValue). b ∷ new)) (left-last offers (c ∷ d ∷ rest) x) ∙ none_mapped (nat_eq x.vertex.node 1) b (gone_on offers (c ∷ d ∷ rest))

pub gone_on-last : (offers : Offers) (lower : StackValue) (x : Frame) → gone_on offers (lower ++ x ∷ []) ≡ option_map (λ (new : StackValue). lower ++ new) (option_map rooted (goes_on offers x.vertex x.call))
gone_on-last offers [] x = mapped_itself (option_map rooted (goes_on offers x.vertex x.call))
gone_on-last offers (b ∷ []) x = ap (option_map (λ (new : StackValue). b ∷ new)) (gone_on-last offers [] x) ∙ mapped_twice b [] (option_map rooted (goes_on offers x.vertex x.call))
gone_on-last offers (b ∷ c ∷ rest) x = ap (option_map (λ (new : StackValue). b ∷ new)) (gone_on-last offers (c ∷ rest) x) ∙ mapped_twice b (c ∷ rest) (option_map rooted (goes_on offers x.vertex x.call))

-- ---- a label on such a stack
abbrev pub stepped_to : Label → StackValue → Vertex → Option Vertex → Option StackValue
stepped_to label below from None = None
stepped_to label below from (Some to) = Some (stepped_frames label below from to)

entered : (below : StackValue) (from : Vertex) (n : ℕ) (o : Option Vertex) → option_map (λ (new : StackValue). below ++ new) (option_map (λ (to : Vertex). waiting_frame from n ∷ rooted to) o) ≡ stepped_to (Enter n) below from o
entered below from n None = refl
entered below from n (Some to) = refl

rooted_on : (below : StackValue) (from : Vertex) (label : Label) (o : Option Vertex) → ((to : Vertex) → stepped_frames label below from to ≡ below ++ rooted to) → option_map (λ (new : StackValue). below ++ new) (option_map rooted o) ≡ stepped_to label below from o
rooted_on below from label None is = refl
rooted_on below from label (Some to) is = ap Some (sym (is to))

threaded : (below : StackValue) (from : Vertex) (n : ℕ) (o : Option Vertex) → option_map rooted o ≡ stepped_to (Thread n) below from o
threaded below from n None = refl
threaded below from n (Some to) = refl

-- every label but Leave
abbrev pub IsStep : Label → Type 0
IsStep (Do n) = Unit {0}
IsStep (Over n) = Unit {0}
IsStep (Enter n) = Unit {0}
IsStep (Thread n) = Unit {0}
IsStep Leave = ⊥

pub moved-last : (offers : Offers) (label : Label) → IsStep label → (below : StackValue) (x : Frame) → moved offers label (below ++ x ∷ []) ≡ stepped_to label below x.vertex (target_of label (offers x.vertex))
moved-last offers (Do n) step below x = with_top-last (λ v. option_map rooted (target_of (Do n) (offers v))) below x ∙ rooted_on below x.vertex (Do n) (target_of (Do n) (offers x.vertex)) (λ to. refl)
moved-last offers (Over n) step below x = with_top-last (λ v. option_map rooted (target_of (Over n) (offers v))) below x ∙ rooted_on below x.vertex (Over n) (target_of (Over n) (offers x.vertex)) (λ to. refl)
moved-last offers (Enter n) step below x = with_top-last (λ v. option_map (λ (to : Vertex). waiting_frame v n ∷ rooted to) (target_of (Enter n) (offers v))) below x ∙ entered below x.vertex n (target_of (Enter n) (offers x.vertex))
moved-last offers (Thread n) step below x = ap (λ (o : Option Vertex). option_map rooted (option_and_then (λ v. target_of (Thread n) (offers v)) o)) (top_of-last below x) ∙ threaded below x.vertex n (target_of (Thread n) (offers x.vertex))
moved-last offers Leave step below x = absurd step

-- ---- the last frame of a stack that has one
pub split_last : (xs : StackValue) (x : Frame) → 1 ≤ length xs → x ≡ get_or xs (length xs - 1) x → take (length xs - 1) xs ++ x ∷ [] ≡ xs
split_last xs x some is =
    let all : take (length xs - 1 + 1) xs ≡ xs = take_all (length xs - 1 + 1) xs (omega arith) in
    ap (λ (z : Frame). take (length xs - 1) xs ++ z ∷ []) is ∙ sym (take_more xs (length xs - 1) x (omega arith)) ∙ all

pub last_there : (xs : StackValue) → 1 ≤ length xs → (x : Frame) × (take (length xs - 1) xs ++ x ∷ [] ≡ xs)
last_there [] some = absurd (omega arith)
last_there (y ∷ ys) some =
    let i = length (y ∷ ys) - 1 in
    let x = get_or (y ∷ ys) i y in
    (x, split_last (y ∷ ys) x some (get_or_default (y ∷ ys) i y x (omega arith)))

pub returned-split : (offers : Offers) (xs : StackValue) → 1 ≤ length xs → returned offers xs ≡ gone_on offers (take (length xs - 1) xs)
returned-split offers xs some = (let last = last_there xs some in ap (returned offers) (sym last.1) ∙ returned-last offers (take (length xs - 1) xs) last.0)

gone_by : (lower : StackValue) (to : Vertex) (o : Option Vertex) → o ≡ Some to → option_map (λ (new : StackValue). lower ++ new) (option_map rooted o) ≡ Some (lower ++ rooted to)
gone_by lower to o is = ap (λ (q : Option Vertex). option_map (λ (new : StackValue). lower ++ new) (option_map rooted q)) is

gone_nowhere : (lower : StackValue) (o : Option Vertex) → o ≡ None → option_map (λ (new : StackValue). lower ++ new) (option_map rooted o) ≡ None
gone_nowhere lower o is = ap (λ (q : Option Vertex). option_map (λ (new : StackValue). lower ++ new) (option_map rooted q)) is

module _ (offers : Offers) (xs : StackValue) (x : Frame) (some : 1 ≤ length xs) (is : x ≡ get_or xs (length xs - 1) x) where
  pub gone_on-none : goes_on offers x.vertex x.call ≡ None → gone_on offers xs ≡ None
  gone_on-none none = ap (gone_on offers) (sym (split_last xs x some is)) ∙ gone_on-last offers (take (length xs - 1) xs) x ∙ gone_nowhere (take (length xs - 1) xs) (goes_on offers x.vertex x.call) none

  pub gone_on-some : (to : Vertex) → goes_on offers x.vertex x.call ≡ Some to → gone_on offers xs ≡ Some (take (length xs - 1) xs ++ rooted to)
  gone_on-some to some_to = ap (gone_on offers) (sym (split_last xs x some is)) ∙ gone_on-last offers (take (length xs - 1) xs) x ∙ gone_by (take (length xs - 1) xs) to (goes_on offers x.vertex x.call) some_to

pub step_from_other : (label : Label) → label ≢ Leave → IsStep label
step_from_other (Do n) apart = tt
step_from_other (Over n) apart = tt
step_from_other (Enter n) apart = tt
step_from_other (Thread n) apart = tt
step_from_other Leave apart = absurd (apart refl)
