use Rattle.std.proofs.Common.{◌≡◌, ◌++◌, option_map, All, drop, length}
use Rattle.serde_json.specs.View.{items_view}
use Rattle.dap_wire.specs.Breakpoints.{each_breakpoint}
use Rattle.dap_wire.specs.Sound.{IsBreakText}
use Rattle.dap_wire.proofs.breakpoints.each_breakpoint.Given as goal

abbrev pub invariant-loop-item : goal.invariant-loop-item
invariant-loop-item l = record {
  reading : each_breakpoint (items_view l.items) ≡ option_map (λ rest. l.list ++ rest) (each_breakpoint (items_view (drop l.item-index l.items)));
  utf8 : All IsBreakText l.list;
  few : length l.list ≡ l.item-index;
}
