use Rattle.std.proofs.Common.{sym, arith}
use Rattle.wast_lexer.proofs.Clean.{clean_here, clean_on, clean_not}
use Rattle.wast_lexer.proofs.comment.is_clean.Goals as goal

pub returns-then-is_refused_at : goal.returns-then-is_refused_at
returns-then-is_refused_at c = sym (clean_not c.args.text.now _ c.leads.at c.find_either-at.result c.leads.invariant.rest c.find_either-at.ensures.rest c.if-is_refused_at.ensures)

pub leads-preserved-then-at-text : goal.leads-preserved-then-at-text
leads-preserved-then-at-text c = record { within = omega arith; rest = clean_on c.args.text.now _ c.leads.at c.find_either-at.result c.leads.invariant.rest c.find_either-at.ensures.rest c.if-at-text.true c.if-is_refused_at.ensures }

pub leads-preserved : goal.leads-preserved
leads-preserved c = record { within = omega arith; rest = clean_here c.args.text.now _ c.leads.at c.find_either-at.result c.leads.invariant.rest c.find_either-at.ensures.rest }
