use Rattle.std.proofs.Common.{refl}
use Rattle.std.specs.Vec.{with_item}
use Rattle.arg_graph.proofs.NodeRows.{added, room_kept, room_read}
use Rattle.arg_graph.proofs.graph.add.Goals as goal

pub returns-clause-at : goal.returns-clause-at
returns-clause-at c =
    let rows = c.args.rows.now.items in
    let v = c.args.v in
    let row = c.index_mut.result.now in
    let old = c.index_mut-2.result.now in
    let there = room_read rows v.func v.node row c.requires c.index_mut.ensures.value in
    added rows v row (with_item row v.node c.push.new.self) old c.push.new.self there.0 there.1 c.index_mut-2.ensures.value refl c.in_ok-push.ensures.ok

pub returns-clause-room : goal.returns-clause-room
returns-clause-room c =
    let rows = c.args.rows.now.items in
    let v = c.args.v in
    let row = c.index_mut.result.now in
    let old = c.index_mut-2.result.now in
    let there = room_read rows v.func v.node row c.requires c.index_mut.ensures.value in
    room_kept rows v row (with_item row v.node c.push.new.self) old c.push.new.self there.0 there.1 c.index_mut-2.ensures.value refl c.in_ok-push.ensures.ok
