use Rattle.std.proofs.Common.{map, sym, ap, ◌∙◌}
use Rattle.std.proofs.lemmas.Bool.{false≢true}
use Rattle.std.proofs.lemmas.Result.{IfOk-weaker}
use Rattle.wast_parser.specs.Problem.{Problem, is_memory}
use Rattle.wast_grammar.specs.Spelling.{same_name}
use Rattle.wast_core.specs.ModuleFieldViews.{field_tree}
use Rattle.wast_meaning.specs.Implied.{implied}
use Rattle.wast_resolve_laws.proofs.Expanded.{expanded_implies_none}
use Rattle.wast_resolve_laws.proofs.Names.{name_self}
use Rattle.wast_resolve.specs.Resolving.{Means}
use Rattle.wast_resolve.specs.Whole.{names_spaces, written_by}
use Rattle.wast_resolve.proofs.Wholly.{if_refused, answers_before, numbers_before, means_before}
use Rattle.wast_resolve.proofs.whole.resolve_in_place.Goals as goal

pub number_expanded-requires : goal.number_expanded-requires
number_expanded-requires c =
    ap (implied same_name) c.in-Ok.ensures.expanded ∙ expanded_implies_none same_name name_self (written_by c.args.gensym.now (map field_tree c.args.fields.now.items))

pub returns-in-Ok-clause-answers : goal.returns-in-Ok-clause-answers
returns-in-Ok-clause-answers c =
    let written = written_by c.args.gensym.now (map field_tree c.args.fields.now.items) in
    answers_before written _ c.in-Ok.ensures.expanded c.number_expanded.result c.number_expanded.ensures.answers

pub returns-in-Ok-clause-resolved : goal.returns-in-Ok-clause-resolved
returns-in-Ok-clause-resolved c =
    let written = written_by c.args.gensym.now (map field_tree c.args.fields.now.items) in
    numbers_before written _ c.in-Ok.ensures.expanded c.number_expanded.result _ c.number_expanded.ensures.numbered

pub returns-in-Ok-clause-names : goal.returns-in-Ok-clause-names
returns-in-Ok-clause-names c =
    let written = written_by c.args.gensym.now (map field_tree c.args.fields.now.items) in
    IfOk-weaker c.number_expanded.result _ (λ n. Means (names_spaces n) written) (λ n. means_before written _ c.in-Ok.ensures.expanded (names_spaces n)) c.number_expanded.ensures.names

pub returns-in-Ok-clause-counted_unmet : goal.returns-in-Ok-clause-counted_unmet
returns-in-Ok-clause-counted_unmet c = if_refused c.number_expanded.result _ (λ e other. c.in-Ok.ensures.counted)

pub returns-in-Err-clause-counted_unmet : goal.returns-in-Err-clause-counted_unmet
returns-in-Err-clause-counted_unmet c = λ other. absurd (false≢true (sym other ∙ ap (λ (p : Problem). is_memory p.cause) c.from.ensures))
