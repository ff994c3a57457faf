use Rattle.std.proofs.Common.{◌≡◌, cond, List, ap, ◌∙◌}
use Rattle.constraint_sys.specs.declared.unknown.Unknown.{Unknown}
use Rattle.constraint_sys.specs.Contribution.{read_by}
use Rattle.constraint_sys.specs.Table.{unknown_eq}
use Rattle.dep_index.specs.Noted.{reads_of}
use Rattle.constraint_sys.specs.Carry.{targets_of}
use Rattle.destabilise.specs.Linked.{Targets, targets_at}
use Rattle.destabilise.proofs.Linking.{all_affected, all_read, item_there, noted_more, targets_put}
use Rattle.destabilise.proofs.links.Links.of.Goals as goal

pub given_at-requires-clause-there : goal.given_at-requires-clause-there
given_at-requires-clause-there c = item_there c.args.table.now c.in_ok-unknowns.unknowns.items c.as_slice-u-items.result.now c.in_ok-unknowns.ensures.all c.as_slice-u-items.ensures.value c.loop-u.u-index c.u-item.result c.loop-u-test.true c.u-item.is

pub loop-u-preserved : goal.loop-u-preserved
loop-u-preserved c =
    let p = c.args.program.now in
    let t = c.args.table.now in
    let x = c.u-item.result in
    record {
      readers = noted_more c.as_slice-u-items.result.now c.loop-u.u-index x c.loop-u-test.true c.u-item.is (read_by p t) (reads_of c.loop-u.readers) (reads_of c.note.new.self)
          (λ q. c.in_ok-note.ensures.ok q ∙ ap (λ (l : List Unknown). cond (unknown_eq q x) l (reads_of c.loop-u.readers q)) (c.as_slice.ensures ∙ c.in_ok-reads.ensures.reads))
          c.loop-u.invariant.readers;
      targets = noted_more c.as_slice-u-items.result.now c.loop-u.u-index x c.loop-u-test.true c.u-item.is (targets_of p t) (targets_at c.loop-u.targets.entries) (targets_at c.put.new.targets.entries)
          (λ q. ap (λ (l : Targets). targets_at l q) c.in_ok-put.ensures ∙ targets_put c.loop-u.targets.entries x c.in_ok-reads.affects q ∙ ap (λ (l : List Unknown). cond (unknown_eq q x) l (targets_at c.loop-u.targets.entries q)) c.in_ok-reads.ensures.targets)
          c.loop-u.invariant.targets;
    }

pub returns : goal.returns
returns c =
    let p = c.args.program.now in
    let t = c.args.table.now in
    record {
      readers = all_read t c.in_ok-unknowns.unknowns.items c.as_slice-u-items.result.now c.in_ok-unknowns.ensures.all c.as_slice-u-items.ensures.value c.loop-u.u-index c.loop-u-test.false p (reads_of c.loop-u.readers) c.loop-u.invariant.readers;
      targets = all_affected t c.in_ok-unknowns.unknowns.items c.as_slice-u-items.result.now c.in_ok-unknowns.ensures.all c.as_slice-u-items.ensures.value c.loop-u.u-index c.loop-u-test.false p (targets_at c.loop-u.targets.entries) c.loop-u.invariant.targets;
    }
