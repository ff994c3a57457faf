use Rattle.std.proofs.Common.{sym, ◌∙◌}
use Rattle.c_parse.proofs.Fronts.{left_within, bad_rest, deep_rest}
use Rattle.c_parse.proofs.fault_of.fault_of.Goals as goal

pub overflow_sub-tokens : goal.overflow_sub-tokens
overflow_sub-tokens c = left_within c.args.tokens.now c.args.trouble c.args.left c.requires

pub returns-then-begins_unsupported : goal.returns-then-begins_unsupported
returns-then-begins_unsupported c = record {
  rest = c.split_at.result.1.now;
  bad = bad_rest c.args.tokens.now c.split_at.result.1.now c.args.trouble c.args.left c.requires c.in-Bad.is c.split_at.ensures.back;
  keyword = sym c.begins_unsupported.ensures ∙ c.if-begins_unsupported.true;
  here = c.place_or-place.ensures;
}

pub returns-in-Deep : goal.returns-in-Deep
returns-in-Deep c = record {
  rest = c.split_at.result.1.now;
  deep = deep_rest c.args.tokens.now c.split_at.result.1.now c.args.trouble c.args.left c.requires c.in-Deep.is c.split_at.ensures.back;
  here = c.place_or-place.ensures;
}

pub returns-else-begins_unsupported : goal.returns-else-begins_unsupported
returns-else-begins_unsupported c = record {
  rest = c.split_at.result.1.now;
  bad = bad_rest c.args.tokens.now c.split_at.result.1.now c.args.trouble c.args.left c.requires c.in-Bad.is c.split_at.ensures.back;
  keyword = sym c.begins_unsupported.ensures ∙ c.if-begins_unsupported.false;
  here = c.place_or-place.ensures;
}
