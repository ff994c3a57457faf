-- Statements one after the other: from the ones up to a place to those from there on.
use Rattle.std.proofs.Common.{◌≡◌, refl, sym, ap, ◌∙◌, subst, Bool, List, [], ◌∷◌, ◌++◌, map}
use Rattle.std.proofs.lemmas.List.{append-nil}
use Rattle.gob_tree.specs.declared.stmt.Placed.{Placed}
use Rattle.c_parse.specs.declared.raw.stmt.RawPlaced.{RawPlaced}
use Rattle.c_check.specs.declared.fault.FrontFault.{FrontFault}
use Rattle.c_check.specs.Faults.{IsFirst}
use Rattle.c_check.specs.Names.{FileNames, BodyNames}
use Rattle.c_check.specs.Bodies.{reading_of, sequence_faults, sequence_becomes, sequence_after}
use Rattle.c_check.proofs.Firsts.{first_left}
use Rattle.c_check.proofs.Listed.{grown}

module _ (file : FileNames) (l : Bool) where
  -- `es` are the statements from a place on, where `b` is declared
  pub record From (all es : List RawPlaced) (start b : BodyNames) (list : List Placed) : Type 0 where
    pub faults : sequence_faults (map (reading_of file) all) l start ≡ sequence_faults (map (reading_of file) es) l b
    pub made : sequence_becomes (map (reading_of file) all) start ≡ list ++ sequence_becomes (map (reading_of file) es) b
    pub after : sequence_after (map (reading_of file) all) start ≡ sequence_after (map (reading_of file) es) b

  pub from_start : (all : List RawPlaced) (start : BodyNames) → From all all start start []
  from_start all start = record { faults = refl; made = refl; after = refl }

  pub from_fault : (fault : FrontFault) (all es rest : List RawPlaced) (e : RawPlaced) (start b : BodyNames) (list : List Placed) → From all es start b list → es ≡ e ∷ rest
      → IsFirst fault ((reading_of file e).faults l b) → IsFirst fault (sequence_faults (map (reading_of file) all) l start)
  from_fault fault all es rest e start b list i is h =
      subst (λ (fs : List FrontFault). IsFirst fault fs) (sym (i.faults ∙ ap (λ (x : List RawPlaced). sequence_faults (map (reading_of file) x) l b) is))
      (first_left fault _ (sequence_faults (map (reading_of file) rest) l ((reading_of file e).after b)) h)

  pub from_next : (all es rest : List RawPlaced) (e : RawPlaced) (start b next : BodyNames) (list list' : List Placed) (y : Placed) → From all es start b list → es ≡ e ∷ rest
      → ((reading_of file e).faults l b ≡ []) × (y ≡ (reading_of file e).becomes b) × (next ≡ (reading_of file e).after b) → list' ≡ list ++ y ∷ [] → From all rest start next list'
  from_next all es rest e start b next list list' y i is h pushed = record {
    faults =
        i.faults ∙ ap (λ (x : List RawPlaced). sequence_faults (map (reading_of file) x) l b) is
        ∙ ap (λ (fs : List FrontFault). fs ++ sequence_faults (map (reading_of file) rest) l ((reading_of file e).after b)) h.0
        ∙ ap (λ (x : BodyNames). sequence_faults (map (reading_of file) rest) l x) (sym h.2);
    made =
        grown _ list list' (sequence_becomes (map (reading_of file) rest) next) y
        (i.made ∙ ap (λ (x : List RawPlaced). list ++ sequence_becomes (map (reading_of file) x) b) is
        ∙ ap (λ (z : Placed). list ++ z ∷ sequence_becomes (map (reading_of file) rest) ((reading_of file e).after b)) (sym h.1)
        ∙ ap (λ (x : BodyNames). list ++ y ∷ sequence_becomes (map (reading_of file) rest) x) (sym h.2))
        pushed;
    after =
        i.after ∙ ap (λ (x : List RawPlaced). sequence_after (map (reading_of file) x) b) is
        ∙ ap (λ (x : BodyNames). sequence_after (map (reading_of file) rest) x) (sym h.2);
  }

  pub from_end : (all es : List RawPlaced) (start b : BodyNames) (list : List Placed) → From all es start b list → es ≡ []
      → (sequence_faults (map (reading_of file) all) l start ≡ []) × (list ≡ sequence_becomes (map (reading_of file) all) start) × (b ≡ sequence_after (map (reading_of file) all) start)
  from_end all es start b list i is = (
    i.faults ∙ ap (λ (x : List RawPlaced). sequence_faults (map (reading_of file) x) l b) is,
    sym (i.made ∙ ap (λ (x : List RawPlaced). list ++ sequence_becomes (map (reading_of file) x) b) is ∙ append-nil list),
    sym (i.after ∙ ap (λ (x : List RawPlaced). sequence_after (map (reading_of file) x) b) is),
  )
