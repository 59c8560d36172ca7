mod WeightsRead
