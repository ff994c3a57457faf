-- A text has one source or one first fault: its tokens are one cut, they spell one tree, and a list has one first.
use Rattle.std.proofs.Common.{◌≡◌, ◌≢◌, refl, sym, ap, ◌∙◌, subst, ℕ, List, [], ◌∷◌}
use Rattle.gob_tree.specs.declared.graph.Program.{Program}
use Rattle.gob_tree.specs.declared.text.Text.{Text}
use Rattle.gob_tree.specs.declared.unit.Unit.{Unit as TranslationUnit}
use Rattle.c_meaning.specs.Graph.{program_of}
use Rattle.c_lex.proofs.Cut.{one_list}
use Rattle.c_lex.proofs.Outcomes.{one_fault as one_lex_fault, tokens_or_fault}
use Rattle.c_lex.specs.Places.{place_after}
use Rattle.c_lex.specs.Tokens.{AreTokens, IsFirstFault}
use Rattle.c_lex.specs.declared.fault.LexFault.{LexFault}
use Rattle.c_lex.specs.declared.fault.LexFault.TheVariants as lexing
use Rattle.c_lex.specs.declared.token.Token.{Token}
use Rattle.c_parse.proofs.OneFault.{one_fault as one_parse_fault, no_fault}
use Rattle.c_parse.proofs.UniqueUnit.{same_unit}
use Rattle.c_parse.specs.Fault.{IsFault}
use Rattle.c_parse.specs.Grammar.{IsUnit}
use Rattle.c_parse.specs.Terminals.{terminals_of}
use Rattle.c_parse.specs.declared.fault.ParseFault.{ParseFault}
use Rattle.c_parse.specs.declared.raw.unit.RawItem.{RawItem}
use Rattle.c_parse.specs.declared.raw.unit.RawUnit.{RawUnit}
use Rattle.c_source.specs.declared.source.Source.{Source}
use Rattle.c_check.specs.declared.fault.FrontFault.{FrontFault}
use Rattle.c_check.specs.Faults.{want_of_memory, IsFirst}
use Rattle.c_check.specs.Faults as faults
use Rattle.c_check.specs.Front.{tree_faults, lex_fault, parse_fault, Reads, IsSourceOf, IsFirstOf, in_tokens, in_grammar, in_tree, no_memory}
use Rattle.c_check.specs.Units.{unit_of}

abbrev tree_with : List RawItem → RawUnit
tree_with items = record { items = items }

same_tree : (text : List ℕ) (a b : RawUnit) → Reads text a → Reads text b → a ≡ b
same_tree text a b r s =
    let tokens : r.tokens ≡ s.tokens = one_list text r.tokens s.tokens r.cut s.cut in
    let items : a.items ≡ b.items = same_unit r.spelled s.spelled (ap (λ (ts : List Token). terminals_of text ts) tokens) in
    ap tree_with items

abbrev source_with : Text → TranslationUnit → Program → Source
source_with text unit program = record { text = text; unit = unit; program = program }

pub one_source : (text : List ℕ) (a b : Source) → IsSourceOf text a → IsSourceOf text b → a ≡ b
one_source text a b p q =
    let raw : p.raw ≡ q.raw = same_tree text p.raw q.raw p.read q.read in
    let texts : a.text ≡ b.text = p.text_is ∙ sym q.text_is in
    let units : a.unit ≡ b.unit = p.unit_is ∙ ap (λ (r : RawUnit). unit_of r) raw ∙ sym q.unit_is in
    let programs : a.program ≡ b.program = p.program_is ∙ ap (λ (r : RawUnit). program_of (unit_of r)) raw ∙ sym q.program_is in
    ap (λ (t : Text). source_with t a.unit a.program) texts
    ∙ ap (λ (u : TranslationUnit). source_with b.text u a.program) units
    ∙ ap (λ (r : Program). source_with b.text b.unit r) programs

-- ---- the first of a list

first_is : (f x : FrontFault) (xs : List FrontFault) → f ≢ want_of_memory → IsFirst f (x ∷ xs) → f ≡ x
first_is f x xs p (faults.first) = refl
first_is f x xs p (faults.no_memory is) = absurd (p is)

first_of_none : (f : FrontFault) → IsFirst f [] → f ≡ want_of_memory
first_of_none f (faults.no_memory is) = is

same_first : (f g : FrontFault) (xs : List FrontFault) → f ≢ want_of_memory → g ≢ want_of_memory → IsFirst f xs → IsFirst g xs → f ≡ g
same_first f g [] p q x y = absurd (p (first_of_none f x))
same_first f g (z ∷ zs) p q x y = first_is f z zs p x ∙ sym (first_is g z zs q y)

-- ---- phases

no_lex_fault : (text : List ℕ) (tokens : List Token) (t : LexFault) → AreTokens text tokens → IsFirstFault text t → lex_fault t ≡ want_of_memory
no_lex_fault text tokens lexing.TooLong cut h = absurd (tokens_or_fault text tokens lexing.TooLong cut (λ e. cc) h)
no_lex_fault text tokens (lexing.NotText place) cut h = absurd (tokens_or_fault text tokens (lexing.NotText place) cut (λ e. cc) h)
no_lex_fault text tokens (lexing.BadCharacter place) cut h = absurd (tokens_or_fault text tokens (lexing.BadCharacter place) cut (λ e. cc) h)
no_lex_fault text tokens (lexing.OpenComment place) cut h = absurd (tokens_or_fault text tokens (lexing.OpenComment place) cut (λ e. cc) h)
no_lex_fault text tokens (lexing.BadLiteral place) cut h = absurd (tokens_or_fault text tokens (lexing.BadLiteral place) cut (λ e. cc) h)
no_lex_fault text tokens (lexing.Unsupported place) cut h = absurd (tokens_or_fault text tokens (lexing.Unsupported place) cut (λ e. cc) h)
no_lex_fault text tokens lexing.Memory cut h = refl

no_parse_fault : (text : List ℕ) (tokens : List Token) (raw : RawUnit) (t : ParseFault) → AreTokens text tokens → Reads text raw → IsFault (terminals_of text tokens) (place_after text) t
    → parse_fault t ≡ want_of_memory
no_parse_fault text tokens raw t cut read h =
    let same : read.tokens ≡ tokens = one_list text read.tokens tokens read.cut cut in
    let spelled : IsUnit (terminals_of text tokens) raw.items = subst (λ (ts : List Token). IsUnit (terminals_of text ts) raw.items) same read.spelled in
    ap parse_fault (no_fault (terminals_of text tokens) raw.items (place_after text) t spelled h)

pub not_both : (text : List ℕ) (source : Source) (fault : FrontFault) → IsSourceOf text source → IsFirstOf text fault → fault ≡ want_of_memory
not_both text source fault s (in_tokens t h) = no_lex_fault text s.read.tokens t s.read.cut h
not_both text source fault s (in_grammar tokens t cut h) = no_parse_fault text tokens s.raw t cut s.read h
not_both text source fault s (in_tree raw read is) =
    let same : raw ≡ s.raw = same_tree text raw s.raw read s.read in
    first_of_none fault (subst (λ (fs : List FrontFault). IsFirst fault fs) (ap (λ (r : RawUnit). tree_faults r) same ∙ s.no_fault) is)
not_both text source fault s (no_memory) = refl

pub one_first : (text : List ℕ) (f g : FrontFault) → f ≢ want_of_memory → g ≢ want_of_memory → IsFirstOf text f → IsFirstOf text g → f ≡ g
one_first text f g p q (in_tokens s a) (in_tokens t b) = ap lex_fault (one_lex_fault text s t a b (λ e. p (ap lex_fault e)) (λ e. q (ap lex_fault e)))
one_first text f g p q (in_tokens s a) (in_grammar tokens t cut b) = absurd (p (no_lex_fault text tokens s cut a))
one_first text f g p q (in_tokens s a) (in_tree raw read is) = absurd (p (no_lex_fault text read.tokens s read.cut a))
one_first text f g p q (in_grammar tokens s cut a) (in_tokens t b) = absurd (q (no_lex_fault text tokens t cut b))
one_first text f g p q (in_grammar tokens s cut a) (in_grammar others t cut' b) =
    let same : others ≡ tokens = one_list text others tokens cut' cut in
    ap parse_fault (one_parse_fault (terminals_of text tokens) (place_after text) s t (λ e. p (ap parse_fault e)) (λ e. q (ap parse_fault e)) a
    (subst (λ (ts : List Token). IsFault (terminals_of text ts) (place_after text) t) same b))
one_first text f g p q (in_grammar tokens s cut a) (in_tree raw read is) = absurd (p (no_parse_fault text tokens raw s cut read a))
one_first text f g p q (in_tree raw read is) (in_tokens t b) = absurd (q (no_lex_fault text read.tokens t read.cut b))
one_first text f g p q (in_tree raw read is) (in_grammar tokens t cut b) = absurd (q (no_parse_fault text tokens raw t cut read b))
one_first text f g p q (in_tree raw read is) (in_tree raw' read' is') =
    let same : raw' ≡ raw = same_tree text raw' raw read' read in
    same_first f g (tree_faults raw) p q is (subst (λ (r : RawUnit). IsFirst g (tree_faults r)) same is')
one_first text f g p q (no_memory) y = absurd (p refl)
one_first text f g p q x (no_memory) = absurd (q refl)
