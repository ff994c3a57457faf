-- What was written one piece after another.
use Rattle.std.proofs.Common.{◌≡◌, ◌∙◌, ℕ, ◌+◌, ◌<◌, inl, inr, List, ◌++◌, take, length, Option, None, Some, option_map, refl, sym, ap, subst, append_assoc, arith}
use Rattle.std.specs.Prelude.{Result, Ok, Err, OnOk, OnErr}
use Rattle.std.proofs.lemmas.List.{take-append-le}
use Rattle.std.proofs.Math.Seq.{take-append-add, take-length}
use Rattle.gob_outside.specs.Count.{Rose}
use Rattle.gob_outside.specs.Sink.{SinkNow}
use Rattle.gobpie_main.specs.Tell.{CutShort, Said, Wrote}

-- the bytes behind what was written before
abbrev with_bytes : Option (List ℕ) → List ℕ → Option (List ℕ)
with_bytes written bytes = option_map (λ old. old ++ bytes) written

with_bytes_twice : (written : Option (List ℕ)) (a b : List ℕ) → with_bytes (with_bytes written a) b ≡ with_bytes written (a ++ b)
with_bytes_twice None a b = refl
with_bytes_twice (Some old) a b = ap (λ (l : List ℕ). Some l) (append_assoc old a b)

module _ (before after : SinkNow) (bytes : List ℕ) where
  -- all were written, and then the sink couldn't pass them on
  pub cut_at_flush : {A E : Type 0} (r : Result A E) (between : SinkNow) → Wrote before between bytes → after.written ≡ between.written → OnErr r (Rose between.faults after.faults)
      → OnErr r (CutShort before after bytes)
  cut_at_flush (Ok v) between wrote kept rose = tt
  cut_at_flush (Err e) between wrote kept rose = record {
    sent = length bytes;
    bytes_are = kept ∙ (wrote.bytes_are ∙ ap (λ (l : List ℕ). with_bytes before.written l) (sym (take-length bytes)));
    failed = subst (λ (n : ℕ). Rose n after.faults) wrote.fine rose;
  }

module _ (before after : SinkNow) (a b : List ℕ) where
  -- both were written
  wrote_both : (between : SinkNow) → Wrote before between a → Wrote between after b → Wrote before after (a ++ b)
  wrote_both between first second = record {
    bytes_are = second.bytes_are ∙ (ap (λ (o : Option (List ℕ)). with_bytes o b) first.bytes_are ∙ with_bytes_twice before.written a b);
    fine = second.fine ∙ first.fine;
  }

  -- the second was cut short
  cut_in_second : (between : SinkNow) → Wrote before between a → CutShort between after b → CutShort before after (a ++ b)
  cut_in_second between first second = record {
    sent = length a + second.sent;
    bytes_are = second.bytes_are ∙ (ap (λ (o : Option (List ℕ)). with_bytes o (take second.sent b)) first.bytes_are
        ∙ (with_bytes_twice before.written a (take second.sent b) ∙ ap (λ (l : List ℕ). with_bytes before.written l) (sym (take-append-add a b second.sent))));
    failed = subst (λ (n : ℕ). Rose n after.faults) first.fine second.failed;
  }

  -- the first was cut short, and nothing more was written
  pub cut_in_first : (sent : ℕ) → sent < length a → after.written ≡ with_bytes before.written (take sent a) → Rose before.faults after.faults → Said before after (a ++ b)
  cut_in_first sent fewer wrote rose = inr (record {
    sent = sent;
    bytes_are = wrote ∙ ap (λ (l : List ℕ). with_bytes before.written l) (sym (take-append-le sent a b (omega (arith, fewer))));
    failed = rose;
  })

  -- the first was written, and the second as far as the sink took it
  pub said_both : {A E : Type 0} (r : Result A E) (between : SinkNow) → Wrote before between a → OnOk r (Wrote between after b) → OnErr r (CutShort between after b) → Said before after (a ++ b)
  said_both (Ok v) between first ok err = inl (wrote_both between first ok)
  said_both (Err e) between first ok err = inr (cut_in_second between first err)
