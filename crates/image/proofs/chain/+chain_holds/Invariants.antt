use Rattle.image.proofs.chain.+chain_holds.Given as goal

abbrev pub decreases-chain_holds : goal.decreases-chain_holds
decreases-chain_holds l = l.number
