use Rattle.std.proofs.Common.{◌∷◌, ◌++◌, [], Some, sym, ap, ◌∙◌, subst}
use Rattle.atomic_table.specs.Table.{opening}
use Rattle.turn_lock.specs.Rule.{Ruled, newcomer}
use Rattle.turn_lock.proofs.RuleKept.{starts}
use Rattle.turn_lock.proofs.lock.TurnLock.new.Goals as goal

pub new-requires : goal.new-requires
new-requires g c = let items = c.in_default.ensures.items ∙ ap (λ xs. xs ++ Some c.args.state ∷ []) c.new-slots.ensures.items in
    subst (λ xs. Ruled g.S.Logged.stands (opening (0 ∷ []) xs (newcomer 0))) (sym items) (starts _ c.args.state c.requires)
