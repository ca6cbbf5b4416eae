use Rattle.accuse_core.proofs.BlockLaws.{block_within, block_before, block_past}
use Rattle.accuse_core.proofs.laws.blocks_keep_what_is_not_removed.Goals as goal

pub returns-clause-within : goal.returns-clause-within
returns-clause-within c = block_within

pub returns-clause-before : goal.returns-clause-before
returns-clause-before c = block_before

pub returns-clause-past : goal.returns-clause-past
returns-clause-past c = block_past
