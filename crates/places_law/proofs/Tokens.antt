-- The tokens of a text stand at ascending places.
use Rattle.std.proofs.Common.{◌≡◌, sym, ap, ◌∙◌, subst, ℕ, ◌+◌, ◌<◌, List, [], ◌∷◌, ◌++◌, length, Option, None, Some, arith, append_assoc}
use Rattle.std.specs.List.{AllByRecursion}
use Rattle.std.specs.Option.{option_map}
use Rattle.std.specs.Prelude.{option_to_list}
use Rattle.std.proofs.lemmas.List.{append-nil}
use Rattle.gob_tree.specs.declared.place.Place.{Place}
use Rattle.c_lex.specs.Places.{place_after}
use Rattle.c_lex.specs.Tokens.{Piece, AreLongest, AreTokens, kind_of, tokens_of}
use Rattle.c_lex.specs.declared.token.Token.{Token}
use Rattle.c_lex.specs.declared.token.TokenKind.{TokenKind}
use Rattle.c_lex.proofs.Heads.{length-piece}
use Rattle.c_parse.specs.Terminals.{terminals_of}
use Rattle.c_parse.specs.declared.terminal.Terminal.{Terminal}
use Rattle.places_law.specs.Order.{IsBefore}
use Rattle.places_law.proofs.Places.{grows}

-- the place of the token is that after these bytes and some more
abbrev Follows : List ℕ → Token → Type 0
Follows b t = (m : List ℕ) × (t.place ≡ place_after (b ++ m))

abbrev made : List ℕ → Piece → Option TokenKind → List Token
made b p o = option_to_list (option_map (λ kind. record { kind = kind; place = place_after b; start = length b; end = length b + length p.text }) o)

weaker : (b c : List ℕ) (ts : List Token) → AllByRecursion (Follows (b ++ c)) ts → AllByRecursion (Follows b) ts
weaker b c [] h = tt
weaker b c (t ∷ ts) h = ((c ++ h.0.0, h.0.1 ∙ ap place_after (append_assoc b c h.0.0)), weaker b c ts h.1)

follow_step : (b : List ℕ) (p : Piece) (o : Option TokenKind) (ts : List Token) → AllByRecursion (Follows (b ++ p.text)) ts → AllByRecursion (Follows b) (made b p o ++ ts)
follow_step b p None ts h = weaker b p.text ts h
follow_step b p (Some k) ts h = (([], ap place_after (sym (append-nil b))), weaker b p.text ts h)

follow_all : (b : List ℕ) (ps : List Piece) → AllByRecursion (Follows b) (tokens_of b ps)
follow_all b [] = tt
follow_all b (p ∷ ps) = follow_step b p (kind_of p.shape) (tokens_of (b ++ p.text) ps) (follow_all (b ++ p.text) ps)

behind : (b c : List ℕ) (ts : List Token) → 0 < length c → AllByRecursion (Follows (b ++ c)) ts → AllByRecursion (λ (u : Token). IsBefore (place_after b) u.place) ts
behind b c [] some h = tt
behind b [] (t ∷ ts) some h = absurd (omega arith)
behind b (x ∷ c) (t ∷ ts) some h =
    let at : t.place ≡ place_after (b ++ x ∷ (c ++ h.0.0)) = h.0.1 ∙ ap place_after (append_assoc b (x ∷ c) h.0.0) in
    (subst (λ (q : Place). IsBefore (place_after b) q) (sym at) (grows b x (c ++ h.0.0)), behind b (x ∷ c) ts some h.1)

-- each token stands before those behind it
abbrev TokensClimb : List Token → Type 0
TokensClimb [] = Unit {0}
TokensClimb (t ∷ ts) = AllByRecursion (λ (u : Token). IsBefore t.place u.place) ts × TokensClimb ts

abbrev pub Climb : List Terminal → Type 0
Climb [] = Unit {0}
Climb (t ∷ ts) = AllByRecursion (λ (u : Terminal). IsBefore t.place u.place) ts × Climb ts

climb_step : (b : List ℕ) (p : Piece) (o : Option TokenKind) (ts : List Token) → 0 < length p.text → AllByRecursion (Follows (b ++ p.text)) ts → TokensClimb ts → TokensClimb (made b p o ++ ts)
climb_step b p None ts some f c = c
climb_step b p (Some k) ts some f c = (behind b p.text ts some f, c)

climb_pieces : (b : List ℕ) (ps : List Piece) (rest : List ℕ) → AreLongest b ps rest → TokensClimb (tokens_of b ps)
climb_pieces b [] rest h = tt
climb_pieces b (p ∷ ps) rest h =
    climb_step b p (kind_of p.shape) (tokens_of (b ++ p.text) ps) (length-piece _ p.shape p.text h.0.piece) (follow_all (b ++ p.text) ps) (climb_pieces (b ++ p.text) ps rest h.2)

same_places : (text : List ℕ) (at : Place) (ts : List Token) → AllByRecursion (λ (u : Token). IsBefore at u.place) ts → AllByRecursion (λ (u : Terminal). IsBefore at u.place) (terminals_of text ts)
same_places text at [] h = tt
same_places text at (t ∷ ts) h = (h.0, same_places text at ts h.1)

climb_terminals : (text : List ℕ) (ts : List Token) → TokensClimb ts → Climb (terminals_of text ts)
climb_terminals text [] h = tt
climb_terminals text (t ∷ ts) h = (same_places text t.place ts h.0, climb_terminals text ts h.1)

pub tokens_climb : (text : List ℕ) (tokens : List Token) → AreTokens text tokens → Climb (terminals_of text tokens)
tokens_climb text tokens are = climb_terminals text tokens (subst TokensClimb (sym are.kept) (climb_pieces [] are.pieces [] are.cut.longest))
