-- The sizes of graphs, as they are found function by function.
use Rattle.std.proofs.Common.{◌≡◌, refl, sym, ap, ◌∙◌, subst, ℕ, ◌+◌, ◌-◌, ◌<◌, ◌≤◌, ◌⊎◌, inl, inr, Bool, true, false, List, [], ◌++◌, length, nat_le, get_or, drop, drop-cons, add-one, arith}
use Rattle.std.proofs.lemmas.Bool.{lt-leb, leb-true}
use Rattle.gob_tree.specs.declared.place.Place.{Place}
use Rattle.gob_tree.specs.declared.unit.Function.{Function}
use Rattle.c_meaning.specs.Graph.{graph_of}
use Rattle.cfg_build.specs.Growing.{IsOverLimits}
use Rattle.c_check.specs.declared.fault.FrontFault.{FrontFault}
use Rattle.c_check.specs.declared.fault.FrontKind.TheVariants.{Limit}
use Rattle.c_check.specs.Faults.{fault_at, asks, IsFirst, first}
use Rattle.c_check.specs.Front.{size_faults, graph_faults}
use Rattle.c_check.proofs.Firsts.{first_left}

sized : (slots nodes : Bool) (place : Place) → (slots ≡ false) ⊎ (nodes ≡ false) → IsFirst (fault_at Limit place) (asks slots Limit place ++ asks nodes Limit place)
sized false nodes place h = first
sized true false place h = first
sized true true place (inl h) = absurd (cc)
sized true true place (inr h) = absurd (cc)

pub over_nodes : (fault : FrontFault) (nodes : ℕ) (f : Function) (n : ℕ) → fault ≡ fault_at Limit f.place → n ≡ length (graph_of f).nodes → 4096 - nodes < n → nodes ≤ 4096 → IsFirst fault (size_faults nodes f)
over_nodes fault nodes f n is same over within =
    subst (λ (x : FrontFault). IsFirst x (size_faults nodes f)) (sym is)
    (sized (nat_le (length (graph_of f).slots) 128) (nat_le (nodes + length (graph_of f).nodes) 4096) f.place (inr (lt-leb _ _ (omega arith))))

pub over_limits : (fault : FrontFault) (nodes : ℕ) (f : Function) → fault ≡ fault_at Limit f.place → IsOverLimits (graph_of f) → IsFirst fault (size_faults nodes f)
over_limits fault nodes f is (inl over) =
    subst (λ (x : FrontFault). IsFirst x (size_faults nodes f)) (sym is)
    (sized (nat_le (length (graph_of f).slots) 128) (nat_le (nodes + length (graph_of f).nodes) 4096) f.place (inr (lt-leb _ _ (omega arith))))
over_limits fault nodes f is (inr over) =
    subst (λ (x : FrontFault). IsFirst x (size_faults nodes f)) (sym is)
    (sized (nat_le (length (graph_of f).slots) 128) (nat_le (nodes + length (graph_of f).nodes) 4096) f.place (inl (lt-leb _ _ over)))

-- ---- from function to function

ahead : (fs : List Function) (i nodes : ℕ) (d : Function) → i < length fs → graph_faults nodes (drop i fs) ≡ size_faults nodes (get_or fs i d) ++ graph_faults (nodes + length (graph_of (get_or fs i d)).nodes) (drop (i + 1) fs)
ahead fs i nodes d l =
    ap (λ (xs : List Function). graph_faults nodes xs) (drop-cons fs i d l)
    ∙ ap (λ (k : ℕ). size_faults nodes (get_or fs i d) ++ graph_faults (nodes + length (graph_of (get_or fs i d)).nodes) (drop k fs)) (sym (add-one i))

pub graphs_fault : (fault : FrontFault) (fs : List Function) (i nodes : ℕ) (d : Function) → i < length fs → graph_faults 0 fs ≡ graph_faults nodes (drop i fs) → IsFirst fault (size_faults nodes (get_or fs i d)) → IsFirst fault (graph_faults 0 fs)
graphs_fault fault fs i nodes d l rest is =
    subst (λ (xs : List FrontFault). IsFirst fault xs) (sym (rest ∙ ahead fs i nodes d l)) (first_left fault _ _ is)

sizes_true : (slots nodes : Bool) (place : Place) → asks slots Limit place ++ asks nodes Limit place ≡ [] → (slots ≡ true) × (nodes ≡ true)
sizes_true true true place e = (refl, refl)
sizes_true true false place e = cc
sizes_true false nodes place e = cc

-- what a graph without a fault keeps
pub sizes_kept : (nodes : ℕ) (f : Function) → size_faults nodes f ≡ [] → (length (graph_of f).slots ≤ 128) × (nodes + length (graph_of f).nodes ≤ 4096)
sizes_kept nodes f none =
    let kept = sizes_true (nat_le (length (graph_of f).slots) 128) (nat_le (nodes + length (graph_of f).nodes) 4096) f.place none in
    (leb-true _ _ kept.0, leb-true _ _ kept.1)
