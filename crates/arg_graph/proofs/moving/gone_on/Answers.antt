use Rattle.std.proofs.Common.{◌≡◌, ◌-◌, ◌++◌, length, take, Some, ap, sym, ◌∙◌, append-nil}
use Rattle.arg_graph.specs.Following.{StackValue, rooted}
use Rattle.arg_graph.specs.Graphs.{offered_in}
use Rattle.arg_graph.proofs.Tops.{gone_on-none, gone_on-some}
use Rattle.arg_graph.proofs.moving.gone_on.Goals as goal

pub returns-in-None : goal.returns-in-None
returns-in-None c = sym (gone_on-none (offered_in c.args.graph.now) c.args.below.now c.caller-item.result c.in-len1-up.len_at_least c.caller-item.is (sym c.in-None.ensures))

pub returns-in_ok-with_frames-in-Some : goal.returns-in_ok-with_frames-in-Some
returns-in_ok-with_frames-in-Some c =
    let xs = c.args.below.now in
    ap Some c.in_ok-with_frames-in-Some.ensures ∙ ap (λ (l : StackValue). Some (l ++ rooted c.in-Some.to)) (append-nil (take (length xs - 1) xs)) ∙ sym (gone_on-some (offered_in c.args.graph.now) xs c.caller-item.result c.in-len1-up.len_at_least c.caller-item.is c.in-Some.to (sym c.in-Some.ensures))
