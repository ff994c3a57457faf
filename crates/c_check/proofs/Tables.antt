-- Maps from names beside lists of entries: what is found after a name is put in, and where an entry stands.
use Rattle.std.proofs.Common.{◌≡◌, refl, sym, ap, ◌∙◌, ℕ, suc, ◌+◌, ◌-◌, Bool, true, false, true≢false, cond, List, [], ◌∷◌, ◌++◌, length, length-append, reverse, drop, Option, Some, None, is_some, bytes_eq, inl, inr, arith, add-zero, zero-add}
use Rattle.std.specs.Global.{Vec}
use Rattle.std.proofs.lemmas.Bool.{cases_Bool}
use Rattle.std.proofs.lemmas.List.{reverse-append, reverse-reverse}
use Rattle.std.proofs.lemmas.Slice.Eq.{bytes_eq-Decides}
use Rattle.std.specs.List.{position_from}
use Rattle.std.specs.Option.{option_or, option_map, unwrap_or}
use Rattle.std.specs.Prelude.{slice_get, ◌==◌}
use Rattle.indexmap.specs.IndexMap.{insert_entry}
use Rattle.c_check.specs.declared.meaning.Declared.{Declared}
use Rattle.c_check.specs.declared.visible.Hiding.{Hiding}
use Rattle.c_check.specs.Names.{named, begins_in, without_block}
use Rattle.c_check.specs.Tables.{at_name, first_of, KnowsFirsts, declarations, AreSeen}

same : (x y : List ℕ) → bytes_eq x y ≡ true → x ≡ y
same x y h = (bytes_eq-Decides x y).0 h

-- ---- what a map has after a name is put in

module _ {A : Type 0} (k : Vec ℕ) (v : A) (x : List ℕ) where
  here : (e : Vec ℕ × A) (rest : Option A) → bytes_eq k.items e.0.items ≡ true
      → cond (bytes_eq x e.0.items) (Some v) rest ≡ cond (bytes_eq x k.items) (Some v) (cond (bytes_eq x e.0.items) (Some e.1) rest)
  here e rest at =
      let to : bytes_eq x k.items ≡ bytes_eq x e.0.items = ap (bytes_eq x) (same k.items e.0.items at) in
      elim (cases_Bool (bytes_eq x k.items)) [
        | inl is ↦ (let too : bytes_eq x e.0.items ≡ true = sym to ∙ is in rw (is, too) refl)
        | inr isnt ↦ (let neither : bytes_eq x e.0.items ≡ false = sym to ∙ isnt in rw (isnt, neither) refl)
      ]

  past : (e : Vec ℕ × A) (rest : Option A) → bytes_eq k.items e.0.items ≡ false
      → cond (bytes_eq x e.0.items) (Some e.1) (cond (bytes_eq x k.items) (Some v) rest) ≡ cond (bytes_eq x k.items) (Some v) (cond (bytes_eq x e.0.items) (Some e.1) rest)
  past e rest off = elim (cases_Bool (bytes_eq x k.items)) [
    | inl is ↦ (let apart : bytes_eq x e.0.items ≡ false = ap (λ (y : List ℕ). bytes_eq y e.0.items) (same x k.items is) ∙ off in rw (is, apart) refl)
    | inr isnt ↦ rw isnt refl
  ]

  abbrev put_in : List (Vec ℕ × A) → List (Vec ℕ × A)
  put_in es = insert_entry (λ (a b : Vec ℕ). bytes_eq a.items b.items) es k v

  step : (e : Vec ℕ × A) (es : List (Vec ℕ × A)) (b : Bool) → bytes_eq k.items e.0.items ≡ b → at_name x (put_in es) ≡ cond (bytes_eq x k.items) (Some v) (at_name x es)
      → at_name x (cond b ((e.0, v) ∷ es) (e ∷ put_in es)) ≡ cond (bytes_eq x k.items) (Some v) (cond (bytes_eq x e.0.items) (Some e.1) (at_name x es))
  step e es true at later = here e (at_name x es) at
  step e es false off later = ap (λ (o : Option A). cond (bytes_eq x e.0.items) (Some e.1) o) later ∙ past e (at_name x es) off

  pub at_name-put : (es : List (Vec ℕ × A)) → at_name x (put_in es) ≡ cond (bytes_eq x k.items) (Some v) (at_name x es)
  at_name-put [] = refl
  at_name-put (e ∷ es) = step e es (bytes_eq k.items e.0.items) refl (at_name-put es)

-- ---- the places of the first entries

or_none : {A : Type 0} (o : Option A) → o ≡ option_or o None
or_none None = refl
or_none (Some a) = refl

or_there : {A : Type 0} (o p : Option A) → is_some o ≡ true → o ≡ option_or o p
or_there None p h = absurd (true≢false (sym h))
or_there (Some a) p h = refl

or_absent : {A : Type 0} (o p : Option A) → is_some o ≡ false → p ≡ option_or o p
or_absent None p h = refl
or_absent (Some a) p h = absurd (true≢false h)

-- a name that is there keeps its place
pub kept_first : (es : List (Vec ℕ × ℕ)) (name : List ℕ) (n : ℕ) → is_some (at_name name es) ≡ true → (x : List ℕ) → at_name x es ≡ option_or (at_name x es) (cond (bytes_eq x name) (Some n) None)
kept_first es name n there x = elim (cases_Bool (bytes_eq x name)) [
  | inl is ↦ (let at : is_some (at_name x es) ≡ true = ap (λ (y : List ℕ). is_some (at_name y es)) (same x name is) ∙ there in or_there (at_name x es) (cond (bytes_eq x name) (Some n) None) at)
  | inr isnt ↦ rw isnt (or_none (at_name x es))
]

-- another gets the place behind the others
pub put_first : (es : List (Vec ℕ × ℕ)) (name : List ℕ) (n : ℕ) → is_some (at_name name es) ≡ false → (x : List ℕ)
    → cond (bytes_eq x name) (Some n) (at_name x es) ≡ option_or (at_name x es) (cond (bytes_eq x name) (Some n) None)
put_first es name n absent x = elim (cases_Bool (bytes_eq x name)) [
  | inl is ↦ (let off : is_some (at_name x es) ≡ false = ap (λ (y : List ℕ). is_some (at_name y es)) (same x name is) ∙ absent in rw is (or_absent (at_name x es) (Some n) off))
  | inr isnt ↦ rw isnt (or_none (at_name x es))
]

or_step : {A : Type 0} (b : Bool) (i : A) (rest o p : Option A) → rest ≡ option_or o p → cond b (Some i) rest ≡ option_or (cond b (Some i) o) p
or_step true i rest o p e = refl
or_step false i rest o p e = e

position_behind : {A : Type 0} (test : A → Bool) (i : ℕ) (xs : List A) (y : A) → position_from test i (xs ++ y ∷ []) ≡ option_or (position_from test i xs) (cond (test y) (Some (i + length xs)) None)
position_behind test i [] y = ap (λ (n : ℕ). cond (test y) (Some n) None) (sym (add-zero i))
position_behind test i (x ∷ xs) y =
    let n : (i + 1) + length xs ≡ i + length (x ∷ xs) = omega arith in
    or_step (test x) i _ (position_from test (i + 1) xs) _
    (position_behind test (i + 1) xs y ∙ ap (λ (n : ℕ). option_or (position_from test (i + 1) xs) (cond (test y) (Some n) None)) n)

pub knows_more : {A : Type 0} (places places' : List (Vec ℕ × ℕ)) (entries : List (List ℕ × A)) (name : List ℕ) (v : A) → KnowsFirsts places entries
    → ((x : List ℕ) → at_name x places' ≡ option_or (at_name x places) (cond (bytes_eq x name) (Some (length entries)) None)) → KnowsFirsts places' (entries ++ (name, v) ∷ [])
knows_more places places' entries name v knows more x =
    more x ∙ ap (λ (o : Option ℕ). option_or o (cond (bytes_eq x name) (Some (length entries)) None)) (knows x)
    ∙ ap (λ (n : ℕ). option_or (first_of x entries) (cond (bytes_eq x name) (Some n) None)) (sym (zero-add (length entries)))
    ∙ sym (position_behind (λ e. bytes_eq x e.0) 0 entries (name, v))

-- ---- what stands at a place

found_step : {A : Type 0} (x : List ℕ) (e : List ℕ × A) (es : List (List ℕ × A)) (i j : ℕ) (b : Bool)
    → (position_from (λ e. bytes_eq x e.0) (i + 1) es ≡ Some j → (d : ℕ) × (j ≡ (i + 1) + d) × (named x es ≡ option_map (λ e. e.1) (slice_get es d)))
    → cond b (Some i) (position_from (λ e. bytes_eq x e.0) (i + 1) es) ≡ Some j
    → (d : ℕ) × (j ≡ i + d) × (cond b (Some e.1) (named x es) ≡ option_map (λ e. e.1) (slice_get (e ∷ es) d))
found_step x e es i j true later is = let n : i ≡ j = cc in (0, (sym n ∙ sym (add-zero i)), refl)
found_step x e es i j false later is = let w = later is in (suc w.0, omega (arith, w.1), w.2)

found_from : {A : Type 0} (x : List ℕ) (es : List (List ℕ × A)) (i j : ℕ) → position_from (λ e. bytes_eq x e.0) i es ≡ Some j
    → (d : ℕ) × (j ≡ i + d) × (named x es ≡ option_map (λ e. e.1) (slice_get es d))
found_from x [] i j is = cc
found_from x (e ∷ es) i j is = found_step x e es i j (bytes_eq x e.0) (found_from x es (i + 1) j) is

-- the first entry of a name is the one at its place
pub found_at : {A : Type 0} (x : List ℕ) (es : List (List ℕ × A)) (j : ℕ) → first_of x es ≡ Some j → named x es ≡ option_map (λ e. e.1) (slice_get es j)
found_at x es j is =
    let w = found_from x es 0 j is in
    let n : w.0 ≡ j = omega (arith, w.1) in
    w.2 ∙ ap (λ (d : ℕ). option_map (λ e. e.1) (slice_get es d)) n

missing_step : {A : Type 0} (i : ℕ) (a : A) (b : Bool) (p : Option ℕ) (o : Option A) → (p ≡ None → o ≡ None) → cond b (Some i) p ≡ None → cond b (Some a) o ≡ None
missing_step i a true p o later is = cc
missing_step i a false p o later is = later is

missing_from : {A : Type 0} (x : List ℕ) (es : List (List ℕ × A)) (i : ℕ) → position_from (λ e. bytes_eq x e.0) i es ≡ None → named x es ≡ None
missing_from x [] i is = refl
missing_from x (e ∷ es) i is = missing_step i e.1 (bytes_eq x e.0) (position_from (λ e. bytes_eq x e.0) (i + 1) es) (named x es) (missing_from x es (i + 1)) is

pub missing_at : {A : Type 0} (x : List ℕ) (es : List (List ℕ × A)) → first_of x es ≡ None → named x es ≡ None
missing_at x es is = missing_from x es 0 is

-- ---- declarations, the latest first

last_of : {A : Type 0} (xs : List A) (y : A) → slice_get (xs ++ y ∷ []) (length xs) ≡ Some y
last_of [] y = refl
last_of (x ∷ xs) y = last_of xs y

at_last : {A : Type 0} (ys zs : List A) → zs ≡ reverse ys → slice_get zs (length zs - 1) ≡ slice_get ys 0
at_last [] zs is = rw is refl
at_last (y ∷ ys) zs is =
    let split : zs ≡ reverse ys ++ y ∷ [] = is ∙ reverse-append (y ∷ []) ys in
    let n : length zs - 1 ≡ length (reverse ys) = omega (arith, ap length split, length-append (reverse ys) (y ∷ [])) in
    ap (λ (i : ℕ). slice_get zs i) n ∙ ap (λ (l : List _). slice_get l (length (reverse ys))) split ∙ last_of (reverse ys) y

-- the last one of a list is the first one backwards
pub last_is_first : {A : Type 0} (zs : List A) → slice_get zs (length zs - 1) ≡ slice_get (reverse zs) 0
last_is_first zs = at_last (reverse zs) zs (sym (reverse-reverse zs))

pub one_more : {A : Type 0} (xs : List A) (y : A) → reverse (xs ++ y ∷ []) ≡ y ∷ reverse xs
one_more xs y = reverse-append xs (y ∷ [])

begins_some : (depth : ℕ) (hs : List Hiding) (h : Hiding) → slice_get hs 0 ≡ Some h → (h.declared.depth == depth) ≡ begins_in depth (declarations hs)
begins_some depth [] h is = cc
begins_some depth (g ∷ hs) h is = let e : g ≡ h = cc in ap (λ (d : Hiding). d.declared.depth == depth) (sym e)

begins_none : (depth : ℕ) (hs : List Hiding) → slice_get hs 0 ≡ None → false ≡ begins_in depth (declarations hs)
begins_none depth [] is = refl
begins_none depth (g ∷ hs) is = cc

pub in_block : (depth : ℕ) (all : List Hiding) (h : Hiding) → slice_get all (length all - 1) ≡ Some h → (h.declared.depth == depth) ≡ begins_in depth (declarations (reverse all))
in_block depth all h is = begins_some depth (reverse all) h (sym (last_is_first all) ∙ is)

pub in_no_block : (depth : ℕ) (all : List Hiding) → slice_get all (length all - 1) ≡ None → false ≡ begins_in depth (declarations (reverse all))
in_no_block depth all is = begins_none depth (reverse all) (sym (last_is_first all) ∙ is)

pub none_seen : (latest : List (Vec ℕ × Option Declared)) (all : List Hiding) → latest ≡ [] → all ≡ [] → AreSeen latest (reverse all)
none_seen latest all no_latest none =
    let empty : AreSeen [] (reverse []) = record { knows = λ x. refl; keep = tt } in
    rw (no_latest, none) empty

-- one more declaration hides what its name meant
pub seen_more : (latest latest' : List (Vec ℕ × Option Declared)) (hs : List Hiding) (h : Hiding) → AreSeen latest hs
    → ((x : List ℕ) → at_name x latest' ≡ cond (bytes_eq x h.name.items) (Some (Some h.declared)) (at_name x latest)) → h.hidden ≡ named h.name.items (declarations hs)
    → AreSeen latest' (h ∷ hs)
seen_more latest latest' hs h seen more hidden = record {
  knows = λ x. elim (cases_Bool (bytes_eq x h.name.items)) [
    | inl is ↦ (let at : at_name x latest' ≡ Some (Some h.declared) = more x ∙ ap (λ (b : Bool). cond b (Some (Some h.declared)) (at_name x latest)) is in rw (at, is) refl)
    | inr isnt ↦ (let at : at_name x latest' ≡ at_name x latest = more x ∙ ap (λ (b : Bool). cond b (Some (Some h.declared)) (at_name x latest)) isnt in rw (at, isnt) (seen.knows x))
  ];
  keep = (hidden, seen.keep);
}

-- without the latest one its name means what it hid
pub seen_less : (latest latest' : List (Vec ℕ × Option Declared)) (hs : List Hiding) (h : Hiding) → AreSeen latest (h ∷ hs)
    → ((x : List ℕ) → at_name x latest' ≡ cond (bytes_eq x h.name.items) (Some h.hidden) (at_name x latest)) → AreSeen latest' hs
seen_less latest latest' hs h seen less = record {
  knows = λ x. elim (cases_Bool (bytes_eq x h.name.items)) [
    | inl is ↦ (let at : at_name x latest' ≡ Some h.hidden = less x ∙ ap (λ (b : Bool). cond b (Some h.hidden) (at_name x latest)) is in
        rw at (seen.keep.0 ∙ ap (λ (y : List ℕ). named y (declarations hs)) (sym (same x h.name.items is))))
    | inr isnt ↦ (let at : at_name x latest' ≡ at_name x latest = less x ∙ ap (λ (b : Bool). cond b (Some h.hidden) (at_name x latest)) isnt in
        rw at (seen.knows x ∙ ap (λ (b : Bool). cond b (Some h.declared) (named x (declarations hs))) isnt))
  ];
  keep = seen.keep.1;
}

-- the latest one has a place in the map
pub latest_is_there : (latest : List (Vec ℕ × Option Declared)) (hs : List Hiding) (h : Hiding) → AreSeen latest (h ∷ hs) → at_name h.name.items latest ≡ None → ⊥
latest_is_there latest hs h seen gone =
    let own : bytes_eq h.name.items h.name.items ≡ true = (bytes_eq-Decides h.name.items h.name.items).1 refl in
    let none : None ≡ Some h.declared =
    ap (λ (o : Option (Option Declared)). unwrap_or o None) (sym gone) ∙ seen.knows h.name.items ∙ ap (λ (b : Bool). cond b (Some h.declared) (named h.name.items (declarations hs))) own in
    cc

-- ---- the declarations of a block

pub without_one : (depth : ℕ) (ds : List (List ℕ × Declared)) → begins_in depth ds ≡ true → without_block depth ds ≡ without_block depth (drop 1 ds)
without_one depth [] is = refl
without_one depth (d ∷ ds) is = ap (λ (b : Bool). cond b (without_block depth ds) (d ∷ ds)) is

pub without_none : (depth : ℕ) (ds : List (List ℕ × Declared)) → begins_in depth ds ≡ false → without_block depth ds ≡ ds
without_none depth [] isnt = refl
without_none depth (d ∷ ds) isnt = ap (λ (b : Bool). cond b (without_block depth ds) (d ∷ ds)) isnt

pub fewer : (depth : ℕ) (ds : List (List ℕ × Declared)) → begins_in depth ds ≡ true → suc (length (drop 1 ds)) ≡ length ds
fewer depth [] is = cc
fewer depth (d ∷ ds) is = refl
