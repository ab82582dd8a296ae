use Rattle.std.proofs.Common.{sym, ◌∙◌}
use Rattle.key_lists.specs.Listing.{dom_of}
use Rattle.key_ring.proofs.OfferLemmas.{seen_keys, seen_is_no_new, unseen_is_new}
use Rattle.key_ring.proofs.offer.find_new_dom.Goals as goal

pub returns-then-check_seen : goal.returns-then-check_seen
returns-then-check_seen c =
    let seen = sym (seen_keys (dom_of c.args.template.now c.args.role.now) c.in_ok-dom.dom.now c.args.earlier.now) ∙ sym c.check_seen.ensures ∙ c.if-check_seen.true in
    seen_is_no_new _ (dom_of c.args.template.now c.args.role.now c.args.key.now) c.in_ok-dom.dom.now c.in_ok-dom.ensures seen

pub returns-else-check_seen : goal.returns-else-check_seen
returns-else-check_seen c =
    let unseen = sym (seen_keys (dom_of c.args.template.now c.args.role.now) c.in_ok-dom.dom.now c.args.earlier.now) ∙ sym c.check_seen.ensures ∙ c.if-check_seen.false in
    unseen_is_new _ (dom_of c.args.template.now c.args.role.now c.args.key.now) c.in_ok-dom.dom.now c.in_ok-dom.ensures unseen
