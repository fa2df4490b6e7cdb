use Rattle.dns_tools.proofs.Common.{length}
use Rattle.dns_tools.proofs.arguments.+are_words.Given as goal

abbrev pub decreases-are_words : goal.decreases-are_words
decreases-are_words g l = length l.words.now
