use Rattle.std.proofs.Common.{rules, ◌∙◌, ap, sym}
use Rattle.prompters.specs.Manners.{is_spent}
use Rattle.prompters.proofs.ChainLemmas.{asked_gone, asked_kept, found_again}
use Rattle.prompters.proofs.chain.Chain.ask_at.Goals as goal

pub returns-then-is_spent : goal.returns-then-is_spent
returns-then-is_spent g c =
    asked_gone (λ b. (g.dyn-1.0.entry b.vtable).1.manner b.value) c.args.q.now c.args.self.now.list.items _ c.args.at c.index_mut.result.now c.ask-say.new.prompter c.ask-say.result
    c.requires c.index_mut.ensures.value c.ask-say.ensures.word c.ask-say.ensures.after
    (ap (λ b. is_spent ((g.dyn-1.0.entry b.vtable).1.manner b.value)) (sym (found_again c.args.self.now.list.items c.args.at c.ask-say.new.prompter c.index.result.now c.requires c.index.ensures)) ∙ sym c.is_spent.ensures ∙ c.if-is_spent.true)
    (search rules)

pub returns : goal.returns
returns g c =
    asked_kept (λ b. (g.dyn-1.0.entry b.vtable).1.manner b.value) c.args.q.now c.args.self.now.list.items c.args.at c.index_mut.result.now c.ask-say.new.prompter c.ask-say.result
    c.requires c.index_mut.ensures.value c.ask-say.ensures.word c.ask-say.ensures.after
    (ap (λ b. is_spent ((g.dyn-1.0.entry b.vtable).1.manner b.value)) (sym (found_again c.args.self.now.list.items c.args.at c.ask-say.new.prompter c.index.result.now c.requires c.index.ensures)) ∙ sym c.is_spent.ensures ∙ c.if-is_spent.false)
