use Rattle.agent_laws.proofs.ConversationLaws.{all_searched, chosen_stays}
use Rattle.agent_laws.proofs.ChosenLaws.{key_stays_chosen}
use Rattle.agent_laws.proofs.EditLaws.{edits_or_talks, searches_keys_before}
use Rattle.agent_laws.proofs.laws.a_search_is_over_the_keys_of_its_moment.Goals as goal

pub returns : goal.returns
returns c = record {
  searches = all_searched;
  apart = edits_or_talks;
  before = searches_keys_before;
  chosen = chosen_stays;
  standing = key_stays_chosen;
}
