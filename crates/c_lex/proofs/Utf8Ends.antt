-- Where bytes can go on to be UTF-8, and where they can't.
use Rattle.std.proofs.Common.{◌≡◌, ℕ, ◌+◌, ◌-◌, ◌*◌, ◌≤◌, ◌<◌, ◌≢◌, Bool, true, false, List, [], ◌∷◌, ◌++◌, length, take, drop, get_or, refl, sym, ap, subst, ◌∙◌, arith, inl, inr, append_assoc}
use Rattle.std.specs.Prelude.{◌⊎◌, IsUtf8, nat_le}
use Rattle.std.specs.Int.{is_in_range}
use Rattle.std.specs.Str.{StartsWithNoChar, IsValidUpTo}
use Rattle.std.specs.Str.Lossy.{utf8_error_len, second_byte_min, second_byte_max}
use Rattle.std.proofs.str.Faults.{Ranged, no_char}
use Rattle.std.proofs.str.Laws.{Follows, both}
use Rattle.std.proofs.str.Valid.{of_one, of_two, of_three, of_four}
use Rattle.std.proofs.lemmas.Bool.{and_parts, leb-true, cases_lt}
use Rattle.std.proofs.lemmas.Bool.Decides.{nat_tests}
use Rattle.std.proofs.lemmas.List.{length-append, length-drop, take_at, drop_at}
use Rattle.std.proofs.lemmas.Str.{IsUtf8-append, IsUtf8-nil, IsUtf8-drop, IsCharBoundary-from_take}
use Rattle.std.proofs.Math.Seq.{take-add}
use Rattle.c_lex.specs.Places.{BeginsUtf8, BreaksUtf8}
use Rattle.c_lex.specs.Utf8.{begun_length_of}

-- bytes that don't begin as a character does are not UTF-8
no_utf8 : (bs : List ℕ) → 0 < length bs → (Ranged (length bs) (get_or bs 0 0) (get_or bs 1 0) (get_or bs 2 0) (get_or bs 3 0) → ⊥) → ¬ (IsUtf8 bs)
no_utf8 bs some none ([], (p, e)) = omega (arith, ap length e)
no_utf8 bs some none (c ∷ cs, (p, e)) =
    let all : length bs - 0 ≡ length bs = omega arith in
    let starts : StartsWithNoChar bs = no_char bs 0 (λ r. none (subst (λ n. Ranged n (get_or bs 0 0) (get_or bs 1 0) (get_or bs 2 0) (get_or bs 3 0)) all r)) in
    starts c _ (both _ _ p).0 (sym e)

-- the first byte of a character of several bytes, and what may follow it
abbrev IsLead : ℕ → Type 0
IsLead x = (194 ≤ x) × (x ≤ 244)

abbrev IsSecond : ℕ → ℕ → Type 0
IsSecond x y = (second_byte_min x ≤ y) × (y ≤ second_byte_max x)

-- what the range of the second byte says
record Seconds (x y : ℕ) : Type 0 where
  pub follows : Follows y
  pub three : 224 ≤ x → x < 240 → let high : ℕ = (x - 224) * 64 + (y - 128) in (32 ≤ high) × ((high < 864) ⊎ (896 ≤ high))
  pub four : 240 ≤ x → let high : ℕ = (x - 240) * 64 + (y - 128) in (16 ≤ high) × (high < 272)

-- the least and the greatest second byte
least_second : (x : ℕ) → ((x ≡ 224) × (second_byte_min x ≡ 160)) ⊎ (((x ≡ 240) × (second_byte_min x ≡ 144)) ⊎ ((x ≢ 224) × (x ≢ 240) × (second_byte_min x ≡ 128)))
least_second x = grind (arith, nat_tests)

most_second : (x : ℕ) → ((x ≡ 237) × (second_byte_max x ≡ 159)) ⊎ (((x ≡ 244) × (second_byte_max x ≡ 143)) ⊎ ((x ≢ 237) × (x ≢ 244) × (second_byte_max x ≡ 191)))
most_second x = grind (arith, nat_tests)

seconds : (x y : ℕ) → IsLead x → IsSecond x y → Seconds x y
seconds x y lead second = record {
  follows = grind (arith, least_second x, most_second x);
  three = λ low high. three_ranges low high;
  four = λ low. grind (arith, least_second x, most_second x);
}
  where
    three_ranges : 224 ≤ x → x < 240 → let high : ℕ = (x - 224) * 64 + (y - 128) in (32 ≤ high) × ((high < 864) ⊎ (896 ≤ high))
    three_ranges low high = grind (arith, least_second x, most_second x)

no_seconds : (x y : ℕ) → IsLead x → ¬ (IsSecond x y) → ¬ (Seconds x y)
no_seconds x y lead none s = none (least, most)
  where
    least : second_byte_min x ≤ y
    least = elim (least_second x) [
      | inl e ↦ let h = (s.three (omega arith) (omega arith)).0 in omega arith
      | inr o ↦ elim o [ inl e ↦ let h = (s.four (omega arith)).0 in omega arith | inr e ↦ omega arith ]
    ]

    most : y ≤ second_byte_max x
    most = elim (most_second x) [
      | inl e ↦ elim (s.three (omega arith) (omega arith)).1 [ inl low ↦ omega arith | inr high ↦ omega arith ]
      | inr o ↦ elim o [ inl e ↦ let h = (s.four (omega arith)).1 in omega arith | inr e ↦ omega arith ]
    ]

-- the bytes of a character that begin it
begins_three : (x y z : ℕ) → IsLead x → 224 ≤ x → IsSecond x y → Follows z → BeginsUtf8 (x ∷ y ∷ z ∷ [])
begins_three x y z lead wide second third =
    let s = seconds x y lead second in
    elim (cases_lt x 240) [
      | inl low ↦
          let ranges = s.three wide low in
          let lo : 2048 ≤ (x - 224) * 4096 + (y - 128) * 64 + (z - 128) = omega arith in
          ([], of_three (x ∷ y ∷ z ∷ []) 0 (omega arith) (wide, low) s.follows third lo (elim ranges.1 [ inl a ↦ inl (omega arith) | inr b ↦ inr (omega arith) ]))
      | inr high ↦ (128 ∷ [], of_four (x ∷ y ∷ z ∷ 128 ∷ []) 0 (omega arith) high s.follows third (omega arith, omega arith) (s.four high))
    ]

begins_two : (x y : ℕ) → IsLead x → IsSecond x y → BeginsUtf8 (x ∷ y ∷ [])
begins_two x y lead second =
    let s = seconds x y lead second in
    elim (cases_lt x 224) [
      | inl low ↦ ([], of_two (x ∷ y ∷ []) 0 (omega arith) (lead.0, low) s.follows)
      | inr high ↦ let more = begins_three x y 128 lead high second (omega arith, omega arith) in (128 ∷ more.0, more.1)
    ]

begins_one : (x : ℕ) → IsLead x → BeginsUtf8 (x ∷ [])
begins_one x lead =
    let fits : second_byte_min x ≤ second_byte_max x = grind (arith, least_second x, most_second x) in
    let more = begins_two x (second_byte_min x) lead (omega arith, fits) in
    (second_byte_min x ∷ more.0, more.1)

-- no front of these bytes is UTF-8
abbrev NoFront : List ℕ → Type 0
NoFront rest = (m : ℕ) → 0 < m → m ≤ length rest → ¬ (IsUtf8 (take m rest))

in_range : (lo hi c : ℕ) → is_in_range lo hi c ≡ true → (lo ≤ c) × (c ≤ hi)
in_range lo hi c t = let parts = and_parts (nat_le lo c) (nat_le c hi) t in (leb-true lo c parts.0, leb-true c hi parts.1)

out_of_range : (lo hi c : ℕ) → is_in_range lo hi c ≡ false → ¬ ((lo ≤ c) × (c ≤ hi))
out_of_range lo hi c t (low, high) = grind (arith, nat_tests)

-- how many bytes of these could begin a character
abbrev begun_of : List ℕ → ℕ
begun_of rest = begun_length_of rest (utf8_error_len rest)

begun_none : (x : ℕ) (xs : List ℕ) → is_in_range 0xC2 0xF4 x ≡ false → begun_of (x ∷ xs) ≡ 0
unfolding utf8_error_len
begun_none x xs e = grind (arith, nat_tests)

begun_all_one : (x : ℕ) → is_in_range 0xC2 0xF4 x ≡ true → begun_of (x ∷ []) ≡ 1
unfolding utf8_error_len
begun_all_one x e = grind (arith, nat_tests)

begun_one : (x y : ℕ) (xs : List ℕ) → is_in_range 0xC2 0xF4 x ≡ true → is_in_range (second_byte_min x) (second_byte_max x) y ≡ false → begun_of (x ∷ y ∷ xs) ≡ 1
unfolding utf8_error_len
begun_one x y xs e f = grind (arith, nat_tests)

begun_all_two : (x y : ℕ) → is_in_range 0xC2 0xF4 x ≡ true → is_in_range (second_byte_min x) (second_byte_max x) y ≡ true → begun_of (x ∷ y ∷ []) ≡ 2
unfolding utf8_error_len
begun_all_two x y e f = grind (arith, nat_tests)

begun_two : (x y z : ℕ) (xs : List ℕ) → is_in_range 0xC2 0xF4 x ≡ true → is_in_range (second_byte_min x) (second_byte_max x) y ≡ true → is_in_range 0x80 0xBF z ≡ false → begun_of (x ∷ y ∷ z ∷ xs) ≡ 2
unfolding utf8_error_len
begun_two x y z xs e f g = grind (arith, nat_tests)

begun_three : (x y z : ℕ) (xs : List ℕ) → is_in_range 0xC2 0xF4 x ≡ true → is_in_range (second_byte_min x) (second_byte_max x) y ≡ true → is_in_range 0x80 0xBF z ≡ true → begun_of (x ∷ y ∷ z ∷ xs) ≡ 3
unfolding utf8_error_len
begun_three x y z [] e f g = grind (arith, nat_tests)
begun_three x y z (w ∷ ws) e f g = grind (arith, nat_tests)

-- as many of these bytes as can begin a text in UTF-8
record RestBreaks (rest : List ℕ) (n : ℕ) : Type 0 where
  pub within : n ≤ length rest
  pub begins : BeginsUtf8 (take n rest)
  pub stops : n < length rest → ¬ (BeginsUtf8 (take (n + 1) rest))

stop_one : (x : ℕ) → 128 ≤ x → ¬ (IsLead x) → ¬ (BeginsUtf8 (x ∷ []))
stop_one x wide none (more, u) =
    no_utf8 (x ∷ more) (omega arith) (λ r.
    let second = r.second wide in
    none (second.0, elim (cases_lt x 240) [ inl low ↦ omega arith | inr high ↦ let range = (r.fourth high).2 in omega arith ])) u

stop_two : (x y : ℕ) → IsLead x → ¬ (IsSecond x y) → ¬ (BeginsUtf8 (x ∷ y ∷ []))
stop_two x y lead none (more, u) =
    no_utf8 (x ∷ y ∷ more) (omega arith) (λ r. no_seconds x y lead none (record { follows = (r.second (omega arith)).2; three = r.in_three; four = λ h. (r.fourth h).2 })) u

stop_three : (x y z : ℕ) → 224 ≤ x → ¬ (Follows z) → ¬ (BeginsUtf8 (x ∷ y ∷ z ∷ []))
stop_three x y z wide none (more, u) = no_utf8 (x ∷ y ∷ z ∷ more) (omega arith) (λ r. none (r.third wide).1) u

stop_four : (x y z w : ℕ) → 240 ≤ x → ¬ (Follows w) → ¬ (BeginsUtf8 (x ∷ y ∷ z ∷ w ∷ []))
stop_four x y z w wide none (more, u) = no_utf8 (x ∷ y ∷ z ∷ w ∷ more) (omega arith) (λ r. none (r.fourth wide).1) u

not_ascii : (x : ℕ) (xs : List ℕ) → NoFront (x ∷ xs) → 128 ≤ x
not_ascii x xs none = elim (cases_lt x 128) [ inl lt ↦ absurd (none 1 (omega arith) (omega arith) (of_one (x ∷ xs) 0 (omega arith) lt)) | inr ge ↦ ge ]

not_two : (x y : ℕ) (xs : List ℕ) → NoFront (x ∷ y ∷ xs) → IsLead x → IsSecond x y → 224 ≤ x
not_two x y xs none lead second =
    elim (cases_lt x 224) [ inl lt ↦ absurd (none 2 (omega arith) (omega arith) (of_two (x ∷ y ∷ xs) 0 (omega arith) (lead.0, lt) (seconds x y lead second).follows)) | inr ge ↦ ge ]

not_three : (x y z : ℕ) (xs : List ℕ) → NoFront (x ∷ y ∷ z ∷ xs) → IsLead x → IsSecond x y → Follows z → 240 ≤ x
not_three x y z xs none lead second third =
    elim (cases_lt x 240) [
      | inl lt ↦
          let s = seconds x y lead second in
          let wide = not_two x y (z ∷ xs) none lead second in
          let ranges = s.three wide lt in
          let lo : 2048 ≤ (x - 224) * 4096 + (y - 128) * 64 + (z - 128) = omega arith in
          absurd (none 3 (omega arith) (omega arith) (of_three (x ∷ y ∷ z ∷ xs) 0 (omega arith) (wide, lt) s.follows third lo (elim ranges.1 [ inl a ↦ inl (omega arith) | inr b ↦ inr (omega arith) ])))
      | inr ge ↦ ge
    ]

not_four : (x y z w : ℕ) (xs : List ℕ) → NoFront (x ∷ y ∷ z ∷ w ∷ xs) → IsLead x → IsSecond x y → Follows z → ¬ (Follows w)
not_four x y z w xs none lead second third fourth =
    let s = seconds x y lead second in
    let wide = not_three x y z (w ∷ xs) none lead second third in
    none 4 (omega arith) (omega arith) (of_four (x ∷ y ∷ z ∷ w ∷ xs) 0 (omega arith) wide s.follows third fourth (s.four wide))

breaks_third : (x y z : ℕ) (xs : List ℕ) → NoFront (x ∷ y ∷ z ∷ xs) → is_in_range 0xC2 0xF4 x ≡ true → is_in_range (second_byte_min x) (second_byte_max x) y ≡ true → (b : Bool) → is_in_range 0x80 0xBF z ≡ b → RestBreaks (x ∷ y ∷ z ∷ xs) (begun_of (x ∷ y ∷ z ∷ xs))
breaks_third x y z xs none e f false g =
    let lead = in_range 194 244 x e in
    let second = in_range (second_byte_min x) (second_byte_max x) y f in
    let apart : ¬ (Follows z) = λ h. out_of_range 128 191 z g (h.0, omega arith) in
    subst (RestBreaks (x ∷ y ∷ z ∷ xs)) (sym (begun_two x y z xs e f g)) (record {
      within = omega arith;
      begins = begins_two x y lead second;
      stops = λ _. stop_three x y z (not_two x y (z ∷ xs) none lead second) apart;
    })
breaks_third x y z [] none e f true g =
    let lead = in_range 194 244 x e in
    let second = in_range (second_byte_min x) (second_byte_max x) y f in
    let wide = not_two x y (z ∷ []) none lead second in
    let range = in_range 128 191 z g in
    subst (RestBreaks (x ∷ y ∷ z ∷ [])) (sym (begun_three x y z [] e f g)) (record {
      within = omega arith;
      begins = begins_three x y z lead wide second (range.0, omega arith);
      stops = λ lt. absurd (omega arith);
    })
breaks_third x y z (w ∷ xs) none e f true g =
    let lead = in_range 194 244 x e in
    let second = in_range (second_byte_min x) (second_byte_max x) y f in
    let wide = not_two x y (z ∷ w ∷ xs) none lead second in
    let range = in_range 128 191 z g in
    let third : Follows z = (range.0, omega arith) in
    subst (RestBreaks (x ∷ y ∷ z ∷ w ∷ xs)) (sym (begun_three x y z (w ∷ xs) e f g)) (record {
      within = omega arith;
      begins = begins_three x y z lead wide second third;
      stops = λ _. stop_four x y z w (not_three x y z (w ∷ xs) none lead second third) (not_four x y z w xs none lead second third);
    })

breaks_second : (x y : ℕ) (xs : List ℕ) → NoFront (x ∷ y ∷ xs) → is_in_range 0xC2 0xF4 x ≡ true → (b : Bool) → is_in_range (second_byte_min x) (second_byte_max x) y ≡ b → RestBreaks (x ∷ y ∷ xs) (begun_of (x ∷ y ∷ xs))
breaks_second x y xs none e false f =
    let lead = in_range 194 244 x e in
    subst (RestBreaks (x ∷ y ∷ xs)) (sym (begun_one x y xs e f)) (record {
      within = omega arith;
      begins = begins_one x lead;
      stops = λ _. stop_two x y lead (out_of_range (second_byte_min x) (second_byte_max x) y f);
    })
breaks_second x y [] none e true f =
    subst (RestBreaks (x ∷ y ∷ [])) (sym (begun_all_two x y e f)) (record {
      within = omega arith;
      begins = begins_two x y (in_range 194 244 x e) (in_range (second_byte_min x) (second_byte_max x) y f);
      stops = λ lt. absurd (omega arith);
    })
breaks_second x y (z ∷ xs) none e true f = breaks_third x y z xs none e f (is_in_range 0x80 0xBF z) refl

breaks_first : (x : ℕ) (xs : List ℕ) → NoFront (x ∷ xs) → (b : Bool) → is_in_range 0xC2 0xF4 x ≡ b → RestBreaks (x ∷ xs) (begun_of (x ∷ xs))
breaks_first x xs none false e =
    subst (RestBreaks (x ∷ xs)) (sym (begun_none x xs e)) (record {
      within = omega arith;
      begins = ([], IsUtf8-nil);
      stops = λ _. stop_one x (not_ascii x xs none) (out_of_range 194 244 x e);
    })
breaks_first x [] none true e =
    subst (RestBreaks (x ∷ [])) (sym (begun_all_one x e)) (record {
      within = omega arith;
      begins = begins_one x (in_range 194 244 x e);
      stops = λ lt. absurd (omega arith);
    })
breaks_first x (y ∷ xs) none true e = breaks_second x y xs none e (is_in_range (second_byte_min x) (second_byte_max x) y) refl

rest_breaks : (rest : List ℕ) → 0 < length rest → NoFront rest → RestBreaks rest (begun_of rest)
rest_breaks [] some none = absurd (omega arith)
rest_breaks (x ∷ xs) some none = breaks_first x xs none (is_in_range 0xC2 0xF4 x) refl

-- after a front in UTF-8, what begins a text does so from there on
begins_after : (front rest : List ℕ) → IsUtf8 front → BeginsUtf8 (front ++ rest) → BeginsUtf8 rest
begins_after front rest u (more, v) =
    let whole : IsUtf8 (front ++ (rest ++ more)) = subst IsUtf8 (append_assoc front rest more) v in
    let taken : take (length front) (front ++ (rest ++ more)) ≡ front = take_at front (rest ++ more) (length front) refl in
    let cut = IsCharBoundary-from_take (front ++ (rest ++ more)) (length front) whole (omega (arith, length-append front (rest ++ more))) (subst IsUtf8 (sym taken) u) in
    (more, subst IsUtf8 (drop_at front (rest ++ more) (length front) refl) (IsUtf8-drop (front ++ (rest ++ more)) (length front) whole cut))

-- where std says that a text stops being UTF-8, as many bytes more can go on
pub breaks_at : (text : List ℕ) (v : ℕ) → ¬ (IsUtf8 text) → IsValidUpTo text v → BreaksUtf8 text (v + begun_length_of (drop v text) (utf8_error_len (drop v text)))
breaks_at text v broken valid =
    let rest : List ℕ = drop v text in
    let long : length rest ≡ length text - v = length-drop v text in
    let none : NoFront rest = λ m some fits u. valid.longest (v + m) (omega arith) (subst IsUtf8 (sym (take-add v m text)) (IsUtf8-append (take v text) (take m rest) valid.front u)) in
    let r = rest_breaks rest (omega (arith, valid.short)) none in
    let n : ℕ = begun_of rest in
    record {
      broken = broken;
      within = omega (arith, valid.short, r.within);
      begins = (
        r.begins.0,
        subst IsUtf8 (sym (ap (λ (t : List ℕ). t ++ r.begins.0) (take-add v n text) ∙ append_assoc (take v text) (take n rest) r.begins.0))
            (IsUtf8-append (take v text) (take n rest ++ r.begins.0) valid.front r.begins.1),
      );
      stops = λ lt b.
          let further : v + n + 1 ≡ v + (n + 1) = omega arith in
          let split : take (v + n + 1) text ≡ take v text ++ take (n + 1) rest = ap (λ m. take m text) further ∙ take-add v (n + 1) text in
          r.stops (omega (arith, valid.short)) (begins_after (take v text) (take (n + 1) rest) valid.front (subst BeginsUtf8 split b));
    }
