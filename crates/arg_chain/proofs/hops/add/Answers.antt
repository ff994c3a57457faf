use Rattle.std.proofs.Common.{◌≡◌, ◌≢◌, None, Some, length, refl, sym, subst, arith}
use Rattle.std.specs.Prelude.{slice_get}
use Rattle.std.specs.Map.{lookup}
use Rattle.std.proofs.lemmas.Option.{slice_get_read}
use Rattle.arg_graph.specs.Graphs.{vertex_eq}
use Rattle.arg_graph.specs.declared.vertex.Vertex.{Vertex}
use Rattle.arg_chain.specs.Calls.{context_of, number_in}
use Rattle.arg_chain.proofs.Numbering.{numbered_more, taken_known, taken_new}
use Rattle.arg_chain.proofs.hops.add.Goals as goal

pub returns-in-Some : goal.returns-in-Some
returns-in-Some c =
    let vs = c.args.vertices.now in
    let v = c.index-vertices-i.result in
    let numbers = c.args.numbers.now.entries in
    let k = c.in-Some.field-0 in
    let at : slice_get vs c.args.i ≡ Some v = slice_get_read vs (length vs) c.args.i v refl c.requires.within c.index-vertices-i.is in
    let known : number_in numbers v ≡ Some k = sym c.in-Some.ensures in
    numbered_more vs c.requires.blocks c.args.i v at numbers numbers (length numbers) (length numbers) k c.requires.before (taken_known numbers (length numbers) v k known) (c.requires.before.only v k known).0 (omega arith)

pub returns-in_ok-put-in-None : goal.returns-in_ok-put-in-None
returns-in_ok-put-in-None c =
    let vs = c.args.vertices.now in
    let v = c.index-vertices-i.result in
    let numbers = c.args.numbers.now.entries in
    let new = c.put.new.numbers.entries in
    let at : slice_get vs c.args.i ≡ Some v = slice_get_read vs (length vs) c.args.i v refl c.requires.within c.index-vertices-i.is in
    let none : number_in numbers v ≡ None = sym c.in-None.ensures in
    let put = c.in_ok-put-in-None.ensures in
    let here : lookup (vertex_eq (context_of v)) new ≡ Some (length numbers) = subst (λ (q : Vertex). lookup (vertex_eq q) new ≡ Some (length numbers)) c.context.ensures put.here in
    let others : (q : Vertex) → q ≢ context_of v → lookup (vertex_eq q) new ≡ lookup (vertex_eq q) numbers = subst (λ (s : Vertex). (q : Vertex) → q ≢ s → lookup (vertex_eq q) new ≡ lookup (vertex_eq q) numbers) c.context.ensures put.others in
    numbered_more vs c.requires.blocks c.args.i v at numbers new (length numbers) (length new) (length numbers) c.requires.before (taken_new numbers new (length numbers) v none here others) (omega (arith, put.len)) (omega (arith, put.len))
