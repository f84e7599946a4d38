use Rattle.std.proofs.Common.{◌≡◌, take}
use Rattle.wast_imports.specs.ImportViews.{member_tree}
use Rattle.wast_meaning.specs.Mentions.{extern_mentions}
use Rattle.wast_names.specs.Walk.{reached}
use Rattle.wast_implied.specs.Known.{after_mentions}
use Rattle.wast_implied.specs.Views.{known}
use Rattle.wast_implied.proofs.gathered.Implied.add_items.Given as goal

abbrev pub invariant-loop-item : goal.invariant-loop-item
invariant-loop-item l = known l.self ≡ reached (λ k x. after_mentions l.fn.span k (extern_mentions (member_tree x).1.extern_type)) (known l.fn.self) (take l.item-index l.items)
