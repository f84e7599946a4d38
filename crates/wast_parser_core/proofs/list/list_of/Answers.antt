use Rattle.std.proofs.Common.{inr, [], ◌∷◌, map, length, ap, sym, ◌∙◌, append-nil, Some}
use Rattle.std.proofs.lemmas.Bool.{or_parts}
use Rattle.std.proofs.lemmas.List.{map-append}
use Rattle.wast_grammar.specs.Look.{any_end}
use Rattle.wast_grammar.specs.Grammar.{many_reads}
use Rattle.wast_grammar.proofs.GrammarLaws.{shrinks}
use Rattle.wast_grammar.proofs.Repeats.{with_front, many_next, many_done, many_refused, many_faulty}
use Rattle.wast_parser_core.specs.State.{ahead}
use Rattle.wast_parser_core.proofs.States.{keeps_trans, keeps_plain, read_plain, refused_plain, refuses_all}
use Rattle.wast_parser_core.proofs.list.list_of.Goals as goal

pub items-smaller : goal.items-smaller
items-smaller g c =
    let t = g.T.Meaning in
    shrinks t.syntax c.lawful.ensures (or_parts t.syntax.empty (any_end t.syntax.starts) g.met.T.Item.inside).0 (or_parts t.syntax.empty (any_end t.syntax.starts) g.met.T.Item.inside).1 _ _ (read_plain t.registers t.syntax.reads (t.tree c.in-Ok.item) c.items.parser c.parse.new.parser g.met.T.Peek.plain c.in-Ok.ensures.read)

pub items-preserved : goal.items-preserved
items-preserved g c =
    let t = g.T.Meaning in
    let less = shrinks t.syntax c.lawful.ensures (or_parts t.syntax.empty (any_end t.syntax.starts) g.met.T.Item.inside).0 (or_parts t.syntax.empty (any_end t.syntax.starts) g.met.T.Item.inside).1 in
    let rest = ahead c.parse.new.parser in
    record {
      keeps = keeps_trans _ _ _ c.items.invariant.keeps (keeps_plain t.registers _ _ g.met.T.Peek.plain c.in-Ok.ensures.keeps);
      same =
          ap (λ zs. with_front (map t.tree zs) (many_reads t.syntax.starts t.syntax.reads (length rest) rest)) c.in_ok-push-in-Ok.ensures.items
          ∙ ap (λ zs. with_front zs (many_reads t.syntax.starts t.syntax.reads (length rest) rest)) (map-append t.tree c.items.items.items (c.in-Ok.item ∷ []))
          ∙ many_next t.syntax.starts t.syntax.reads less _ (ahead c.items.parser) (t.tree c.in-Ok.item, ahead c.parse.new.parser) (c.in-Ok-true.ensures ∙ ap (λ v. Some v) c.in-Ok-true.field-0-test) (read_plain t.registers t.syntax.reads (t.tree c.in-Ok.item) c.items.parser c.parse.new.parser g.met.T.Peek.plain c.in-Ok.ensures.read)
          ∙ c.items.invariant.same;
    }

pub returns-in-Ok-false-clause-read : goal.returns-in-Ok-false-clause-read
returns-in-Ok-false-clause-read g c =
    let t = g.T.Meaning in
    let less = shrinks t.syntax c.lawful.ensures (or_parts t.syntax.empty (any_end t.syntax.starts) g.met.T.Item.inside).0 (or_parts t.syntax.empty (any_end t.syntax.starts) g.met.T.Item.inside).1 in
    sym c.items.invariant.same
    ∙ many_done t.syntax.starts t.syntax.reads less _ (ahead c.items.parser) (c.in-Ok-false.ensures ∙ ap (λ v. Some v) c.in-Ok-false.field-0-test)
    ∙ ap (λ z. Some (z, ahead c.items.parser)) (append-nil (map t.tree c.items.items.items))

pub returns-in-Err-clause-read : goal.returns-in-Err-clause-read
returns-in-Err-clause-read g c =
    let t = g.T.Meaning in
    let less = shrinks t.syntax c.lawful.ensures (or_parts t.syntax.empty (any_end t.syntax.starts) g.met.T.Item.inside).0 (or_parts t.syntax.empty (any_end t.syntax.starts) g.met.T.Item.inside).1 in
    inr (sym c.items.invariant.same ∙ many_faulty t.syntax.starts t.syntax.reads less _ (ahead c.items.parser) c.in-Err.ensures.0)

pub returns-in-Err-parse-clause-read : goal.returns-in-Err-parse-clause-read
returns-in-Err-parse-clause-read g c =
    let t = g.T.Meaning in
    let less = shrinks t.syntax c.lawful.ensures (or_parts t.syntax.empty (any_end t.syntax.starts) g.met.T.Item.inside).0 (or_parts t.syntax.empty (any_end t.syntax.starts) g.met.T.Item.inside).1 in
    (refuses_all _ (t.syntax.reads (ahead c.items.parser)) _ (λ n. sym c.items.invariant.same ∙ many_refused t.syntax.starts t.syntax.reads less _ (ahead c.items.parser) (c.in-Ok-true.ensures ∙ ap (λ v. Some v) c.in-Ok-true.field-0-test) n)
    (refused_plain t.registers t.syntax.reads _ c.items.parser g.met.T.Peek.plain c.in-Err-parse.ensures.read))
