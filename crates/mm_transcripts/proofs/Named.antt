-- The names of errors and statuses, and of the numbers that calls take, by computing.
use Rattle.std.proofs.Common.{◌≡◌, Some, refl}
use Rattle.mm_types.specs.{answer_text, Code, Raise, decimal_onto}
use Rattle.mm_types.specs.declared.answers.Answer.TheVariants as answer
use Rattle.mm_types.specs.declared.codes.Code.TheVariants as code
use Rattle.mm_types.specs.declared.codes.Raise.TheVariants as raise
use Rattle.mm_transcripts.specs.{failure_name, code_name, raise_name, taken_numbers, AreReadAgain}

pub error_named : (c : Code) → failure_name (answer_text (answer.Error c)) ≡ Some (code_name c)
unfolding decimal_onto
error_named code.NotFound = refl
error_named code.AccessDenied = refl
error_named code.InvalidHandle = refl
error_named code.InvalidParameter = refl
error_named code.AlreadyExists = refl
error_named code.InvalidAddress = refl
error_named code.Misaligned = refl
error_named code.CommitmentLimit = refl

pub status_named : (r : Raise) → failure_name (answer_text (answer.Raised r)) ≡ Some (raise_name r)
status_named raise.GuardPage = refl
status_named raise.AccessViolation = refl
status_named raise.InPageError = refl
status_named raise.StackOverflow = refl

pub ruleset named = (error_named, status_named)

pub again : AreReadAgain taken_numbers
again = (
  refl,
  (
    refl,
    (
      refl,
      (
        refl,
        (
          refl,
          (
            refl,
            (
              refl,
              (
                refl,
                (
                  refl,
                  (
                    refl,
                    (
                      refl,
                      (
                        refl,
                        (
                          refl,
                          (
                            refl,
                            (
                              refl,
                              (
                                refl,
                                (
                                  refl,
                                  (
                                    refl,
                                    (
                                      refl,
                                      (
                                        refl,
                                        (
                                          refl,
                                          (
                                            refl,
                                            (
                                              refl,
                                              (
                                                refl,
                                                (
                                                  refl,
                                                  (
                                                    refl,
                                                    (
                                                      refl,
                                                      (
                                                        refl,
                                                        (
                                                          refl,
                                                          (
                                                            refl,
                                                            (
                                                              refl,
                                                              (
                                                                refl,
                                                                (
                                                                  refl,
                                                                  (
                                                                    refl,
                                                                    (
                                                                      refl,
                                                                      (
                                                                        refl,
                                                                        tt,
                                                                      ),
                                                                    ),
                                                                  ),
                                                                ),
                                                              ),
                                                            ),
                                                          ),
                                                        ),
                                                      ),
                                                    ),
                                                  ),
                                                ),
                                              ),
                                            ),
                                          ),
                                        ),
                                      ),
                                    ),
                                  ),
                                ),
                              ),
                            ),
                          ),
                        ),
                      ),
                    ),
                  ),
                ),
              ),
            ),
          ),
        ),
      ),
    ),
  ),
)

pub ruleset read_again = (again)
