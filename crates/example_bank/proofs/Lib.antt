mod PaymentLemmas
