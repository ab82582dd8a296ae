use Rattle.std.proofs.Common.{rules, ap, ◌∙◌}
use Rattle.std.specs.Prelude.{option_map}
use Rattle.std.specs.Ordering.{nat_cmp}
use Rattle.std.specs.Map.{lookup}
use Rattle.std.specs.BTreeMap.{is_at}
use Rattle.std.proofs.lemmas.Map.Made.{map_same_pairs, lookup-map_values}
use Rattle.mailboxes.specs.Mails.{swept}
use Rattle.mailboxes.specs.Deliveries.{mail_in}
use Rattle.mailboxes.specs.Rests.{has_settled_in}
use Rattle.mailboxes.proofs.RestLemmas.{all_rest}
use Rattle.mailboxes.proofs.DeliveryLemmas.{swept_in}
use Rattle.mailboxes.proofs.mailboxes.Mailboxes.sweep_all.Goals as goal

pub returns-clause-mails : goal.returns-clause-mails
returns-clause-mails c = λ conn.
    let left = map_same_pairs _ swept _ (λ k v b w f t. search rules) c.args.self.now.boxes.entries c.retain.new.self.entries c.retain.ensures.filtered in
    ap (λ es. mail_in (lookup (is_at (nat_cmp conn)) es)) left
    ∙ (ap mail_in (lookup-map_values swept (is_at (nat_cmp conn)) c.args.self.now.boxes.entries) ∙ swept_in (lookup (is_at (nat_cmp conn)) c.args.self.now.boxes.entries))

pub returns-clause-none : goal.returns-clause-none
returns-clause-none c = λ conn none.
    let left = map_same_pairs _ swept _ (λ k v b w f t. search rules) c.args.self.now.boxes.entries c.retain.new.self.entries c.retain.ensures.filtered in
    ap (λ es. lookup (is_at (nat_cmp conn)) es) left ∙ (lookup-map_values swept (is_at (nat_cmp conn)) c.args.self.now.boxes.entries ∙ ap (option_map swept) none)

pub invariant_of-self : goal.invariant_of-self
invariant_of-self c = record {
  rests = λ conn off.
      let left = map_same_pairs _ swept _ (λ k v b w f t. search rules) c.args.self.now.boxes.entries c.retain.new.self.entries c.retain.ensures.filtered in
      ap has_settled_in (ap (λ es. lookup (is_at (nat_cmp conn)) es) left ∙ lookup-map_values swept (is_at (nat_cmp conn)) c.args.self.now.boxes.entries) ∙ all_rest (lookup (is_at (nat_cmp conn)) c.args.self.now.boxes.entries);
}
