mod CauseNames
