use Rattle.std.proofs.Common.{◌∙◌, sym, ap, length}
use Rattle.conversations.proofs.ResumeLemmas.{never}
use Rattle.conversations.proofs.StepLemmas.{fits_list}
use Rattle.conversations.proofs.conversation.Conversation.use_list.Goals as goal

pub returns-in-Some : goal.returns-in-Some
returns-in-Some c = record {
  empty = λ e. absurd (c.if-len-eq0.false (c.len.ensures ∙ ap length e));
  rests = λ e. absurd (never (sym e ∙ (sym c.is_seeking.ensures ∙ c.if-not-is_seeking.false)));
  listed = λ s b rest given fits seeks wanted. fits_list c.args.self.now c.in-Some.begun c.use_offers.new.self c.use_offers.result c.args.list s c.in-Some.is fits.carries wanted c.use_offers.ensures;
}
