-- Items one after the other.
use Rattle.std.proofs.Common.{◌≡◌, refl, sym, ap, ◌∙◌, subst, ℕ, ◌+◌, List, [], ◌∷◌, ◌++◌, length, add-zero, append_assoc}
use Rattle.std.proofs.lemmas.List.{append-nil, length-append}
use Rattle.c_parse.specs.declared.raw.unit.RawItem.{RawItem}
use Rattle.c_parse.specs.declared.raw.unit.RawItem.TheVariants as items
use Rattle.c_check.specs.declared.fault.FrontFault.{FrontFault}
use Rattle.c_check.specs.declared.meaning.Signature.{Signature}
use Rattle.c_check.specs.Faults.{IsFirst}
use Rattle.c_check.specs.Units.{Made, definitions, prototypes, item_faults, after_item, items_faults, after_items}
use Rattle.c_check.proofs.Firsts.{first_left}

-- ---- definitions and prototypes

split : (n : ℕ) (item : RawItem) (rest : List RawItem) → definitions n (item ∷ rest) ≡ definitions n (item ∷ []) ++ definitions (n + length (definitions n (item ∷ []))) rest
split n (items.Function h end body) rest = refl
split n (items.Global x w v literal) rest = ap (λ (k : ℕ). definitions k rest) (sym (add-zero n))
split n (items.Mutex x) rest = ap (λ (k : ℕ). definitions k rest) (sym (add-zero n))
split n (items.Prototype h) rest = ap (λ (k : ℕ). definitions k rest) (sym (add-zero n))

pub definitions_next : (all es rest : List RawItem) (item : RawItem) (list list' : List (List ℕ × Signature)) → definitions 0 all ≡ list ++ definitions (length list) es → es ≡ item ∷ rest
    → list' ≡ list ++ definitions (length list) (item ∷ []) → definitions 0 all ≡ list' ++ definitions (length list') rest
definitions_next all es rest item list list' i is more =
    let one : List (List ℕ × Signature) = definitions (length list) (item ∷ []) in
    let len : length list' ≡ length list + length one = ap length more ∙ length-append list one in
    i ∙ ap (λ (x : List RawItem). list ++ definitions (length list) x) is
    ∙ ap (λ (x : List (List ℕ × Signature)). list ++ x) (split (length list) item rest)
    ∙ sym (append_assoc list one (definitions (length list + length one) rest))
    ∙ ap (λ (k : ℕ). (list ++ one) ++ definitions k rest) (sym len)
    ∙ ap (λ (x : List (List ℕ × Signature)). x ++ definitions (length list') rest) (sym more)

pub definitions_end : (all es : List RawItem) (list : List (List ℕ × Signature)) → definitions 0 all ≡ list ++ definitions (length list) es → es ≡ [] → list ≡ definitions 0 all
definitions_end all es list i is = sym (i ∙ ap (λ (x : List RawItem). list ++ definitions (length list) x) is ∙ append-nil list)

split_prototypes : (item : RawItem) (rest : List RawItem) → prototypes (item ∷ rest) ≡ prototypes (item ∷ []) ++ prototypes rest
split_prototypes (items.Function h end body) rest = refl
split_prototypes (items.Global x w v literal) rest = refl
split_prototypes (items.Mutex x) rest = refl
split_prototypes (items.Prototype h) rest = refl

pub prototypes_next : (all es rest : List RawItem) (item : RawItem) (list list' : List (List ℕ × Signature)) → prototypes all ≡ list ++ prototypes es → es ≡ item ∷ rest → list' ≡ list ++ prototypes (item ∷ [])
    → prototypes all ≡ list' ++ prototypes rest
prototypes_next all es rest item list list' i is more =
    i ∙ ap (λ (x : List RawItem). list ++ prototypes x) is
    ∙ ap (λ (x : List (List ℕ × Signature)). list ++ x) (split_prototypes item rest)
    ∙ sym (append_assoc list (prototypes (item ∷ [])) (prototypes rest))
    ∙ ap (λ (x : List (List ℕ × Signature)). x ++ prototypes rest) (sym more)

pub prototypes_end : (all es : List RawItem) (list : List (List ℕ × Signature)) → prototypes all ≡ list ++ prototypes es → es ≡ [] → list ≡ prototypes all
prototypes_end all es list i is = sym (i ∙ ap (λ (x : List RawItem). list ++ prototypes x) is ∙ append-nil list)

-- ---- all items

-- `es` are the items from one on, where this much is made
pub record ItemsFrom (all es : List RawItem) (start made : Made) : Type 0 where
  pub faults : items_faults all start ≡ items_faults es made
  pub after : after_items all start ≡ after_items es made

pub items_fault : (fault : FrontFault) (all es rest : List RawItem) (item : RawItem) (start made : Made) → ItemsFrom all es start made → es ≡ item ∷ rest
    → IsFirst fault (item_faults made.names item) → IsFirst fault (items_faults all start)
items_fault fault all es rest item start made i is h =
    subst (λ (fs : List FrontFault). IsFirst fault fs) (sym (i.faults ∙ ap (λ (x : List RawItem). items_faults x made) is))
    (first_left fault _ (items_faults rest (after_item item made)) h)

pub items_next : (all es rest : List RawItem) (item : RawItem) (start made next : Made) → ItemsFrom all es start made → es ≡ item ∷ rest
    → (item_faults made.names item ≡ []) × (next ≡ after_item item made) → ItemsFrom all rest start next
items_next all es rest item start made next i is h = record {
  faults =
      i.faults ∙ ap (λ (x : List RawItem). items_faults x made) is
      ∙ ap (λ (fs : List FrontFault). fs ++ items_faults rest (after_item item made)) h.0
      ∙ ap (λ (x : Made). items_faults rest x) (sym h.1);
  after = i.after ∙ ap (λ (x : List RawItem). after_items x made) is ∙ ap (λ (x : Made). after_items rest x) (sym h.1);
}

pub items_end : (all es : List RawItem) (start made : Made) → ItemsFrom all es start made → es ≡ [] → (items_faults all start ≡ []) × (made ≡ after_items all start)
items_end all es start made i is =
    (i.faults ∙ ap (λ (x : List RawItem). items_faults x made) is, sym (i.after ∙ ap (λ (x : List RawItem). after_items x made) is))
