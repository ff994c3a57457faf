use Rattle.std.proofs.Common.{◌≡◌, ◌↔◌, ◌∙◌, ◌+◌, ◌∷◌, Bool, false, List, drop, get_or, sym, subst, refl, true≢false}
use Rattle.std.specs.Prelude.{IsTrue}
use Rattle.gob_tree.specs.declared.graph.Edge.{Edge}
use Rattle.constraint_sys.specs.Contribution.{edges_into, reads_of}
use Rattle.constraint_sys.specs.Index.{picked}
use Rattle.constraint_sys.specs.Reading.{HasCommon}
use Rattle.constraint_sys.proofs.Indexing.{edge_member, numbered, picked_here, place_inside, place_next}
use Rattle.constraint_sys.proofs.ReadBy.{common_here, common_later}
use Rattle.constraint_sys.proofs.readers.point_reads_any.Goals as goal

lacks : (b : Bool) (A : Type 0) → IsTrue b ↔ A → b ≡ false → A → ⊥
lacks b A tells off a = true≢false (sym (tells.1 a) ∙ off)

pub loop-i-init : goal.loop-i-init
loop-i-init c =
    let p = c.args.program.now in
    let f = c.args.point.now.func in
    let node = c.args.point.now.node in
    let edges = c.as_slice-edges.result.now in
    let ns = c.into-i-items.result.now in
    let h = numbered p c.args.system.now f node c.function_at.result.now edges ns c.requires.system c.function_at.ensures.is c.as_slice-edges.ensures c.into-i-items.ensures in
    let all = picked_here p f node edges ns h in
    subst (λ (l : List Edge). HasCommon c.args.rose.now (reads_of p c.args.table.now f c.args.point.now.key l) ↔ HasCommon c.args.rose.now (reads_of p c.args.table.now f c.args.point.now.key (edges_into p f node))) (sym all) (λ one. one, λ one. one)

pub bounds-edges-n : goal.bounds-edges-n
bounds-edges-n c =
    let edges = c.as_slice-edges.result.now in
    let ns = c.into-i-items.result.now in
    let h = numbered c.args.program.now c.args.system.now c.args.point.now.func c.args.point.now.node c.function_at.result.now edges ns c.requires.system c.function_at.ensures.is c.as_slice-edges.ensures c.into-i-items.ensures in
    place_inside c.args.program.now c.args.point.now.func c.args.point.now.node edges ns h c.loop-i.i-index c.loop-i-test.true

pub edge_reads_any-requires-clause-edge : goal.edge_reads_any-requires-clause-edge
edge_reads_any-requires-clause-edge c =
    let edges = c.as_slice-edges.result.now in
    let ns = c.into-i-items.result.now in
    let h = numbered c.args.program.now c.args.system.now c.args.point.now.func c.args.point.now.node c.function_at.result.now edges ns c.requires.system c.function_at.ensures.is c.as_slice-edges.ensures c.into-i-items.ensures in
    edge_member c.args.program.now c.args.point.now.func c.args.point.now.node edges ns h (get_or ns c.loop-i.i-index 0) c.index-edges-n.result (place_inside c.args.program.now c.args.point.now.func c.args.point.now.node edges ns h c.loop-i.i-index c.loop-i-test.true) c.index-edges-n.is

pub returns-then-reads : goal.returns-then-reads
returns-then-reads c =
    let p = c.args.program.now in
    let t = c.args.table.now in
    let f = c.args.point.now.func in
    let key = c.args.point.now.key in
    let rose = c.args.rose.now in
    let edges = c.as_slice-edges.result.now in
    let ns = c.into-i-items.result.now in
    let h = numbered p c.args.system.now f c.args.point.now.node c.function_at.result.now edges ns c.requires.system c.function_at.ensures.is c.as_slice-edges.ensures c.into-i-items.ensures in
    let i = c.loop-i.i-index in
    let e = c.index-edges-n.result in
    let rest = picked edges (drop (i + 1) ns) in
    let front : picked edges (drop i ns) ≡ e ∷ rest = place_next p f c.args.point.now.node edges ns h i e c.loop-i-test.true c.index-edges-n.is in
    let whole : HasCommon rose (reads_of p t f key (e ∷ rest)) = common_here rose p t f key e rest (c.in_ok-reads.ensures.0 c.if-reads.true) in
    (λ _. c.loop-i.invariant.0 (subst (λ (l : List Edge). HasCommon rose (reads_of p t f key l)) (sym front) whole), λ _. refl)

pub loop-i-preserved : goal.loop-i-preserved
loop-i-preserved c =
    let p = c.args.program.now in
    let t = c.args.table.now in
    let f = c.args.point.now.func in
    let key = c.args.point.now.key in
    let rose = c.args.rose.now in
    let edges = c.as_slice-edges.result.now in
    let ns = c.into-i-items.result.now in
    let h = numbered p c.args.system.now f c.args.point.now.node c.function_at.result.now edges ns c.requires.system c.function_at.ensures.is c.as_slice-edges.ensures c.into-i-items.ensures in
    let i = c.loop-i.i-index in
    let e = c.index-edges-n.result in
    let rest = picked edges (drop (i + 1) ns) in
    let front : picked edges (drop i ns) ≡ e ∷ rest = place_next p f c.args.point.now.node edges ns h i e c.loop-i-test.true c.index-edges-n.is in
    let later = common_later rose p t f key e rest (lacks c.in_ok-reads.reads _ c.in_ok-reads.ensures c.if-reads.false) in
    let so_far : HasCommon rose (reads_of p t f key (e ∷ rest)) ↔ HasCommon rose (reads_of p t f key (edges_into p f c.args.point.now.node)) =
    subst (λ (l : List Edge). HasCommon rose (reads_of p t f key l) ↔ HasCommon rose (reads_of p t f key (edges_into p f c.args.point.now.node))) front c.loop-i.invariant in
    (λ one. so_far.0 (later.0 one), λ one. later.1 (so_far.1 one))
