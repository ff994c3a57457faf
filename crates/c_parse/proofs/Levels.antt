-- A level is its first operand and then the chains of the levels below it, from the tightest on.
use Rattle.std.proofs.Common.{◌≡◌, ◌≤◌, ◌<◌, ◌+◌, arith, subst, inl, inr, ℕ, zero, suc, List, [], ◌∷◌}
use Rattle.std.proofs.Math.Nat.{eq-or-lt_of_le}
use Rattle.c_parse.specs.declared.terminal.Terminal.{Terminal}
use Rattle.c_parse.specs.declared.raw.expr.RawExpr.{RawExpr}
use Rattle.c_parse.specs.declared.stop.Stop.{Stop}
use Rattle.c_parse.specs.Grammar as grammar
use Rattle.c_parse.specs.Grammar.{Nesting, EndsChain, ReadsLevel, ReadsChain}
use Rattle.c_parse.specs.Machine.{level, chain, Breaks}
use Rattle.c_parse.proofs.Opening.{opened_level}
use Rattle.c_parse.proofs.Passing.{passes_level}
use Rattle.c_parse.proofs.Descent.{here, behind_it, is_row}

-- what breaks within a level breaks each level above it
raised : (n l : ℕ) {a : Nesting} {ts : List Terminal} {s : Stop} → l ≤ n → Breaks (level l) a ts s → Breaks (level n) a ts s
raised zero l {a = a} {ts = ts} {s = s} h b = let q : l ≡ 0 = omega (arith, h) in subst (λ (l : ℕ). Breaks (level l) a ts s) q b
raised (suc n) l {a = a} {ts = ts} {s = s} h b = elim (eq-or-lt_of_le h) [
  | inl q ↦ subst (λ (l : ℕ). Breaks (level l) a ts s) q b
  | inr q ↦ is_row {ps = level n ∷ chain n ∷ []} (λ below. opened_level a n ts below) (here (raised n l (omega (arith, q)) b))
]

pub operand_stop : {n : ℕ} {a : Nesting} {ts : List Terminal} {s : Stop} → Breaks (level 0) a ts s → Breaks (level n) a ts s
operand_stop {n = n} b = raised n 0 (omega arith) b

pub chain_in_level_stop : {n l : ℕ} {a m : Nesting} {ts mid : List Terminal} {first : RawExpr} {s : Stop} → l < n → ReadsLevel l a ts first mid m → Breaks (chain l) m mid s → Breaks (level n) a ts s
chain_in_level_stop {n = n} {l = l} {a = a} {ts = ts} {mid = mid} h d b = raised n (suc l) (omega (arith, h)) (is_row {ps = level l ∷ chain l ∷ []} (λ below. opened_level a l ts below) (behind_it {p = level l} {mid = mid} (passes_level d) (here b)))

-- one chain more
pub next_level : {l : ℕ} {a b c : Nesting} {ts mid rest : List Terminal} {first e : RawExpr} → ReadsLevel l a ts first mid b → ReadsChain l first b mid e rest c → ReadsLevel (l + 1) a ts e rest c
next_level {l = l} {a = a} {c = c} {ts = ts} {rest = rest} {e = e} d r = let q : suc l ≡ l + 1 = omega arith in subst (λ (n : ℕ). ReadsLevel n a ts e rest c) q (grammar.chain d r)

-- a chain without operators
pub level_ends : {l : ℕ} {a b : Nesting} {ts rest : List Terminal} {e : RawExpr} → ReadsLevel l a ts e rest b → EndsChain l rest → ReadsLevel (l + 1) a ts e rest b
level_ends d h = next_level d (grammar.ends h)
