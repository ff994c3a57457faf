use Rattle.std.proofs.Common.{◌≡◌, true, [], ◌∷◌, ap, ◌∙◌, length, length-append, arith}
use Rattle.destabilise.specs.Marked.{MarkList, with_mark}
use Rattle.destabilise.proofs.Marking.{balance_more, marked_more, marked_there, waiting_more}
use Rattle.destabilise.proofs.marks.Marks.mark.Goals as goal

pub returns-clause-there : goal.returns-clause-there
returns-clause-there c = marked_there c.args.self.now c.put.new.map.entries c.args.u.now (c.in_ok-put.ensures ∙ ap (λ (m : MarkList). with_mark m c.args.u.now true) c.self.view_is) c.requires

pub returns-clause-marked : goal.returns-clause-marked
returns-clause-marked c = marked_more c.args.self.now c.put.new.map.entries c.args.u.now (c.in_ok-put.ensures ∙ ap (λ (m : MarkList). with_mark m c.args.u.now true) c.self.view_is) c.requires

pub returns-clause-waiting : goal.returns-clause-waiting
returns-clause-waiting c = waiting_more c.args.self.now c.put.new.map.entries c.args.u.now (c.in_ok-put.ensures ∙ ap (λ (m : MarkList). with_mark m c.args.u.now true) c.self.view_is) c.requires c.args.waiting.now.items c.push.new.self.items c.in_ok-push.ensures.items

pub returns-clause-balance : goal.returns-clause-balance
returns-clause-balance c = balance_more c.args.self.now c.put.new.map.entries c.args.u.now c.args.waiting.now.items c.push.new.self.items (c.in_ok-put.ensures ∙ ap (λ (m : MarkList). with_mark m c.args.u.now true) c.self.view_is) c.requires (ap length c.in_ok-push.ensures.items ∙ length-append c.args.waiting.now.items (c.args.u.now ∷ []))
