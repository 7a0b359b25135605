mod RoundTrips
