-- A slot after a store.
use Rattle.c_meaning.specs.Demand.{conversion, slot_width}
use Rattle.state_dom.specs.Laws.{AssignmentDescribes}
use Rattle.state_dom.specs.Operators.{converted_to}
use Rattle.state_dom.proofs.Slots.{DescribesEach-set, HoldsEach-set}
use Rattle.state_dom.proofs.Values.{Describes-conversion, fits-conversion}

pub assignment_describes : AssignmentDescribes
assignment_describes slots xs locks values owners thread x v n described within =
    let w = slot_width slots x in (
      HoldsEach-set slots values x (conversion w n) (fits-conversion w n) described.0,
      DescribesEach-set xs values x (converted_to w v) (conversion w n) (Describes-conversion w v n within) described.1,
      described.2,
    )
