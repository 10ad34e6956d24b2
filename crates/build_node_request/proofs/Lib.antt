mod NodeGathered
