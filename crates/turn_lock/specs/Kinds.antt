-- What an entry is about, and who may add it.
use Rattle.std.specs.Prelude.{◌≡◌, ℕ, Bool, true, false, List, Option, Some, Contains, slice_get}
use Rattle.turn_lock.specs.declared.logged.Role.{Role}

-- the role whose passes make the entry; the subject that it is about, where it is about one; and whether it begins its subject. Each role numbers its own subjects
pub record Kind : Type 0 where
  pub role : Role
  pub subject : Option ℕ
  pub begins : Bool

module _ {E : Type 0} (kind : E → Kind) where
  -- the entry is about the subject n of the role r
  abbrev pub IsAbout : Role → ℕ → E → Type 0
  IsAbout r n e = ((kind e).role ≡ r) × ((kind e).subject ≡ Some n)

  -- the entry begins the subject n of the role r
  abbrev pub Begins : Role → ℕ → E → Type 0
  Begins r n e = IsAbout r n e × ((kind e).begins ≡ true)

  -- where the places `mine` have the entry that begins a subject, they have all entries about it
  abbrev pub OwnsSubjects : List E → List ℕ → Type 0
  OwnsSubjects entries mine = (r : Role) (n b k : ℕ) (e f : E)
      → Contains mine b → slice_get entries b ≡ Some e → Begins r n e
      → slice_get entries k ≡ Some f → IsAbout r n f → Contains mine k

  -- a pass of the role `by`, with the places `mine` as its own, may add e to the entries: e is of its role; if e begins a subject, no entry is about that; and if e is about a subject that it doesn't begin, the pass began it
  pub record MayAdd (by : Role) (entries : List E) (mine : List ℕ) (e : E) : Type 0 where
    pub role : (kind e).role ≡ by
    pub first : (n : ℕ) → Begins by n e → (k : ℕ) (f : E) → slice_get entries k ≡ Some f → IsAbout by n f → ⊥
    pub later : (n : ℕ) → IsAbout by n e → (kind e).begins ≡ false → (b : ℕ) × (d : E) × Contains mine b × (slice_get entries b ≡ Some d) × Begins by n d
